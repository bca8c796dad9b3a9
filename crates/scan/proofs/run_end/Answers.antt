-- `scan::run_end`: what is left of the run is the rest of it.
use borrow.Author.Rules.{rules}
use Rattle.scan.proofs.Runs.{run_on, run_stop, run_end_all, run_runs}
use Rattle.scan.proofs.run_end.Goals as goal

pub returns-then-not-in_class : goal.returns-then-not-in_class
returns-then-not-in_class c = search (run_stop, run_runs, rules)

pub loop-i-preserved : goal.loop-i-preserved
loop-i-preserved c = search (run_on, rules)

pub returns : goal.returns
returns c = search (run_end_all, run_runs, c.loop-i.auto.i-end c.requires, rules)
