-- `sound::zeros_from`: what is left of the cells gives the whole's answer.
use borrow.Author.Rules.{rules}
use Rattle.sound.proofs.Laws.{zeros_on, zeros_not, zeros_end}
use Rattle.sound.proofs.zeros_from.Goals as goal

pub returns-then-t-i-ne0 : goal.returns-then-t-i-ne0
returns-then-t-i-ne0 c = search (zeros_not, rules)

pub loop-i-preserved : goal.loop-i-preserved
loop-i-preserved c = search (zeros_on, rules)

pub returns : goal.returns
returns c = search (zeros_end, rules)
