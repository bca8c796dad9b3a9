-- `finder::mark_of`.
use borrow.Author.Rules.{rules}
use Rattle.finder.proofs.Laws.{mark_low, mark_high}
use Rattle.finder.proofs.mark_of.Goals as goal

pub returns-then-r-lt65534 : goal.returns-then-r-lt65534
returns-then-r-lt65534 c = search (mark_low, rules)

pub returns-else-r-lt65534 : goal.returns-else-r-lt65534
returns-else-r-lt65534 c = search (mark_high, rules)
