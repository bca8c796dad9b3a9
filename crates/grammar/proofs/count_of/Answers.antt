-- `grammar::count_of`.
use borrow.Author.Rules.{rules}
use Rattle.grammar.proofs.Counting.{told_low, told_high, count_past}
use Rattle.grammar.proofs.count_of.Goals as goal

pub returns-then-i-lt10 : goal.returns-then-i-lt10
returns-then-i-lt10 c = search (told_low, rules)

pub returns-then-j-lt3 : goal.returns-then-j-lt3
returns-then-j-lt3 c = search (told_high, rules)

pub returns-else-j-lt3 : goal.returns-else-j-lt3
returns-else-j-lt3 c = search (count_past, rules)
