use Prim.Native.Nat.{◌≤◌, ◌-◌, ◌+◌, ◌*◌}
use mathlib.Core.Path.{◌≡◌}
use Rattle.blocks.specs.Blocks.{plain_from}
use Rattle.blocks.proofs.check_sums.Given as goal

abbrev pub invariant-loop-i : goal.invariant-loop-i
invariant-loop-i l =
    (l.first ≤ 1 + 65535 * l.i) × (l.second ≤ 16645891 * l.i) × (plain_from (254 - l.i) l.s (l.at + 2 * l.i) (record { first = l.first; second = l.second }) ≡ plain_from 254 l.s l.at (record { first = 1; second = 0 }))
