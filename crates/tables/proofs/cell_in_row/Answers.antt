-- `tables::cell_in_row`.
use borrow.Author.Rules.{rules}
use Rattle.tables.proofs.Laws.{past_row}
use Rattle.tables.proofs.cell_in_row.Goals as goal

pub returns-else-i-row : goal.returns-else-i-row
returns-else-i-row c = search (past_row, rules)
