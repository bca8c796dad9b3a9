-- `tables::table_number`.
use borrow.Author.Rules.{rules}
use Rattle.tables.proofs.Laws.{number_low, number_high}
use Rattle.tables.proofs.table_number.Goals as goal

pub returns-then-k-lt-POSIX_FROM : goal.returns-then-k-lt-POSIX_FROM
returns-then-k-lt-POSIX_FROM c = search (number_low, rules)

pub returns : goal.returns
returns c = search (number_high, rules)
