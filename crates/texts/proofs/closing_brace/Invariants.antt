use Prim.Native.Nat.{◌≤◌, ◌-◌}
use mathlib.Core.Path.{◌≡◌}
use lib.ListN.{length}
use Rattle.texts.specs.Action.{braced_from, braced_at}
use Rattle.texts.proofs.closing_brace.Given as goal

abbrev pub invariant-loop-j : goal.invariant-loop-j
invariant-loop-j l = (l.j ≤ length l.s) × (l.n ≤ l.j) × (l.depth ≤ l.j) × (braced_from l.depth l.s l.j l.n ≡ braced_at l.s l.from)

abbrev pub decreases-loop-j : goal.decreases-loop-j
decreases-loop-j l = length l.s - l.j
