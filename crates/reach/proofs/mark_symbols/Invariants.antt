use Prim.Native.Nat.{◌<◌, ◌≤◌}
use Rattle.reach.specs.Reach.{Added, InRow}
use Rattle.reach.proofs.mark_symbols.Given as goal

abbrev pub invariant-loop-s : goal.invariant-loop-s
invariant-loop-s l = (l.from < l.s → l.s ≤ l.to) × Added (InRow l.syms l.z l.from l.s) l.initial.w l.w l.changed
