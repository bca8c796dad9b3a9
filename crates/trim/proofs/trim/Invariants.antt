use Prim.Native.Nat.{◌≤◌, ◌-◌}
use Rattle.trim.proofs.Laws.{Going}
use Rattle.trim.proofs.trim.Given as goal

abbrev pub invariant-loop-i : goal.invariant-loop-i
invariant-loop-i l = (l.start ≤ l.end) × (l.end ≤ l.i) × Going l.s l.from l.to l.start l.end l.i

abbrev pub decreases-loop-i : goal.decreases-loop-i
decreases-loop-i l = l.to - l.i
