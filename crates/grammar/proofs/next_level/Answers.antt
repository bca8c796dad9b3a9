-- `grammar::next_level`.
use borrow.Author.Rules.{rules}
use Rattle.grammar.proofs.Steps.{level_up, level_last}
use Rattle.grammar.proofs.next_level.Goals as goal

pub returns-then-n-lt4294967295 : goal.returns-then-n-lt4294967295
returns-then-n-lt4294967295 c = search (level_up, rules)

pub returns-else-n-lt4294967295 : goal.returns-else-n-lt4294967295
returns-else-n-lt4294967295 c = search (level_last, rules)
