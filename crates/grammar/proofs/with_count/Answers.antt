-- `grammar::with_count`.
use borrow.Author.Rules.{rules}
use Rattle.grammar.proofs.Counting.{set_low, set_high, with_past}
use Rattle.grammar.proofs.with_count.Goals as goal

pub returns-then-i-lt10 : goal.returns-then-i-lt10
returns-then-i-lt10 c = search (set_low, rules)

pub returns-then-j-lt3 : goal.returns-then-j-lt3
returns-then-j-lt3 c = search (set_high, rules)

pub returns : goal.returns
returns c = search (with_past, rules)
