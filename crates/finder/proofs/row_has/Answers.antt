-- `finder::row_has`.
use borrow.Author.Rules.{rules}
use Rattle.finder.proofs.Laws.{has_not, has_told}
use Rattle.finder.proofs.row_has.Goals as goal

pub returns-then-n-r : goal.returns-then-n-r
returns-then-n-r c = search (has_not, rules)

pub returns : goal.returns
returns c = search (has_told, rules)
