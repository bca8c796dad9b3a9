-- `whole::check`: the check of what is left is the check of the whole.
use borrow.Author.Rules.{rules}
use Rattle.whole.proofs.Laws.{check_end, check_run, run_less, check_on, check_bad, check_less}
use Rattle.whole.proofs.check.Goals as goal

pub loop-i-smaller-then-src-i-lt128 : goal.loop-i-smaller-then-src-i-lt128
loop-i-smaller-then-src-i-lt128 c = search (run_less, rules)

pub loop-i-preserved-then-src-i-lt128 : goal.loop-i-preserved-then-src-i-lt128
loop-i-preserved-then-src-i-lt128 c = search (check_run, rules)

pub loop-i-smaller : goal.loop-i-smaller
loop-i-smaller c = search (check_less, rules)

pub loop-i-preserved : goal.loop-i-preserved
loop-i-preserved c = search (check_on, rules)

pub returns-in-None : goal.returns-in-None
returns-in-None c = search (check_bad, rules)

pub returns : goal.returns
returns c = search (check_end, rules)
