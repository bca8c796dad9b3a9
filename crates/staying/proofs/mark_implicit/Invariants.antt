use Rattle.reach.specs.Reach.{named, Adds}
use Rattle.usage.specs.Report.{Implicit}
use Rattle.staying.specs.Marks.{RowBit}
use Rattle.staying.proofs.mark_implicit.Given as goal

abbrev pub invariant-loop-e : goal.invariant-loop-e
invariant-loop-e l = Adds (RowBit (named l.names l.z) (Implicit l.src l.t4 l.e l.z.kind)) l.initial.w l.w
