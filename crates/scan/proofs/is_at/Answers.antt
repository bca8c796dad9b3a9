-- `scan::is_at`.
use borrow.Author.Rules.{rules}
use Rattle.scan.proofs.Bytes.{at_here, at_end}
use Rattle.scan.proofs.is_at.Goals as goal

pub returns-then-k-s : goal.returns-then-k-s
returns-then-k-s c = search (at_here, rules)

pub returns-else-k-s : goal.returns-else-k-s
returns-else-k-s c = search (at_end, rules)
