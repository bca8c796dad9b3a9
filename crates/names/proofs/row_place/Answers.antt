-- `names::row_place`.
use Rattle.names.proofs.Laws.{row_in, row_out}
use Rattle.names.proofs.row_place.Goals as goal

pub returns-then-row-n : goal.returns-then-row-n
returns-then-row-n c = row_in _ _ _ _ _ _ c.if-row-n.true c.cell.ensures c.cell-then-row-n.ensures

pub returns : goal.returns
returns c = row_out _ _ _ _ c.if-row-n.false
