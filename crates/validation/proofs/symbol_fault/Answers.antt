-- `validation::symbol_fault`: its cells, read one by one.
use Rattle.validation.proofs.Laws.{symbol_met, symbol_rule, symbol_token}
use Rattle.validation.proofs.symbol_fault.Goals as goal

pub returns-then-cell : goal.returns-then-cell
returns-then-cell c = symbol_met _ _ _ c.cell.ensures c.if-cell.true

pub returns-then-cell-eq1 : goal.returns-then-cell-eq1
returns-then-cell-eq1 c = symbol_rule _ _ _ c.cell.ensures _ _ _ c.cell-2.ensures c.cell-a.ensures c.cell-b.ensures c.if-cell.false c.if-cell-eq1.true

pub returns : goal.returns
returns c = symbol_token _ _ _ c.cell.ensures _ _ _ c.cell-2.ensures c.cell-a.ensures c.cell-b.ensures c.if-cell.false c.if-cell-eq1.false
