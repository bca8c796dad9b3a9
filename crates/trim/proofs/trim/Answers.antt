-- `trim::trim`: what is left of the loop is what is left of the definition's.
use borrow.Author.Rules.{rules}
use Rattle.trim.proofs.Laws.{trim_first, trim_done, run_start, run_kept, turn_white, turn_start, turn_kept, white_less, white_over, kept_less, kept_past, kept_over}
use Rattle.trim.proofs.Inside.{inside}
use Rattle.trim.proofs.trim.Goals as goal

pub loop-i-init : goal.loop-i-init
loop-i-init c = search (trim_first, rules)

pub loop-i-preserved-then-start-end : goal.loop-i-preserved-then-start-end
loop-i-preserved-then-start-end c = search (run_start, rules)

pub loop-i-preserved-else-start-end : goal.loop-i-preserved-else-start-end
loop-i-preserved-else-start-end c = search (run_kept, rules)

pub loop-i-smaller-in-White : goal.loop-i-smaller-in-White
loop-i-smaller-in-White c = search (white_less, rules)

pub loop-i-preserved-in-White : goal.loop-i-preserved-in-White
loop-i-preserved-in-White c = search (turn_white, white_over, rules)

pub loop-i-smaller-then-start-end-2 : goal.loop-i-smaller-then-start-end-2
loop-i-smaller-then-start-end-2 c = search (kept_less, rules)

pub loop-i-preserved-then-start-end-2 : goal.loop-i-preserved-then-start-end-2
loop-i-preserved-then-start-end-2 c = search (turn_start, kept_past, rules)

pub loop-i-smaller : goal.loop-i-smaller
loop-i-smaller c = search (kept_less, rules)

pub loop-i-preserved : goal.loop-i-preserved
loop-i-preserved c = search (turn_kept, kept_over, rules)

pub returns : goal.returns
returns c = search (trim_done, inside, rules)
