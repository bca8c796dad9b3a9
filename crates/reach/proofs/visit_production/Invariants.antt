use Prim.Native.Nat.{◌<◌, ◌≤◌}
use Rattle.reach.specs.Reach.{Adds, InRow}
use Rattle.reach.proofs.visit_production.Given as goal

abbrev pub invariant-loop-s : goal.invariant-loop-s
invariant-loop-s l = (l.from < l.s → l.s ≤ l.to) × Adds (InRow l.syms l.z l.from l.s) l.initial.w l.w
