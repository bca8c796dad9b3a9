use Rattle.reach.specs.Reach.{named}
use Rattle.usage.specs.Report.{excuses_of, Free, Written}
use Rattle.usage.proofs.write_free.Given as goal

abbrev pub invariant-loop-row : goal.invariant-loop-row
invariant-loop-row l = Written (Free l.w (excuses_of l.src l.c l.t4 l.t6) (named l.names l.z)) l.z.kind l.row l.at l.next l.initial.out l.out
