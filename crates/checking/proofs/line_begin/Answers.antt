-- `checking::line_begin`: a column is one more than the bytes from its line's begin on.
use borrow.Author.Rules.{rules}
use Rattle.checking.proofs.Laws.{begin_is}
use Rattle.checking.proofs.line_begin.Goals as goal

pub returns-clause-value : goal.returns-clause-value
returns-clause-value c = search (begin_is, rules)
