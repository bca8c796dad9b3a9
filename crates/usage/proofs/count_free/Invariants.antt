use Rattle.reach.specs.Reach.{named}
use Rattle.usage.specs.Report.{excuses_of, Free, Counted}
use Rattle.usage.proofs.count_free.Given as goal

abbrev pub invariant-loop-row : goal.invariant-loop-row
invariant-loop-row l = Counted (Free l.w (excuses_of l.src l.c l.t4 l.t6) (named l.names l.z)) l.row l.found
