-- `checking::line_at`.
use borrow.Author.Rules.{rules}
use Rattle.checking.proofs.Laws.{line_long, line_past, line_is}
use Rattle.checking.proofs.line_at.Goals as goal

pub returns-then-len-gt65536 : goal.returns-then-len-gt65536
returns-then-len-gt65536 c = search (line_long, rules)

pub returns-then-len-at : goal.returns-then-len-at
returns-then-len-at c = search (line_past, rules)

pub returns : goal.returns
returns c = search (line_is, rules)
