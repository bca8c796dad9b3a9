use Prim.Native.Nat.{◌+◌, ◌<◌, ◌^◌}
use mathlib.Core.Path.{◌≡◌}
use Rattle.words.specs.Numbers.{decimal_at}
use Rattle.words.proofs.parse_int.Given as goal

abbrev pub invariant-loop-b : goal.invariant-loop-b
invariant-loop-b l = (l.v < 2 ^ 64) × (l.v ≡ decimal_at l.s l.from (l.from + l.b-index))
