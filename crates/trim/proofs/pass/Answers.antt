-- `trim::pass`, in each case of the decoder's answer.
use borrow.Author.Rules.{rules}
use Rattle.trim.proofs.Laws.{pass_white, pass_kept, pass_bad, passes}
use Rattle.trim.proofs.pass.Goals as goal

pub returns-then-is_white : goal.returns-then-is_white
returns-then-is_white c = search (pass_white, passes, rules)

pub returns-else-is_white : goal.returns-else-is_white
returns-else-is_white c = search (pass_kept, passes, rules)

pub returns-in-None : goal.returns-in-None
returns-in-None c = search (pass_bad, passes, rules)
