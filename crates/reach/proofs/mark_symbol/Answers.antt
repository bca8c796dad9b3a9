-- `reach::mark_symbol`: the symbol is of another sort, or has no row, or its row is marked.
use Rattle.reach.proofs.Laws.{symbol_other, symbol_rowless, symbol_marked}
use Rattle.reach.proofs.mark_symbol.Goals as goal

pub returns-then-cell-z : goal.returns-then-cell-z
returns-then-cell-z c =
    let a = c.args in
    symbol_other a.syms.now a.z a.s _ _ c.cell.ensures c.if-cell-z.true

pub returns-then-row-z : goal.returns-then-row-z
returns-then-row-z c =
    let a = c.args in
    symbol_rowless a.syms.now a.z a.s _ _ c.cell-row.ensures c.if-row-z.true

pub returns : goal.returns
returns c =
    let a = c.args in
    symbol_marked a.syms.now a.z a.s _ _ _ _ _ c.cell.ensures c.if-cell-z.false c.cell-row.ensures c.if-row-z.false c.mark.ensures
