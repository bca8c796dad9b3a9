-- `staying::mark_entry`: the declaration is of the other kind, or the row of its name is marked.
use Rattle.reach.specs.Reach.{named}
use Rattle.staying.proofs.Laws.{entry_other, entry_named}
use Rattle.staying.proofs.mark_entry.Goals as goal

pub returns-then-cell-z : goal.returns-then-cell-z
returns-then-cell-z c =
    let a = c.args in
    entry_other a.src.now (named a.names.now a.z) a.t6.now a.e _ a.w.now c.cell.ensures c.if-cell-z.true

pub returns : goal.returns
returns c =
    let a = c.args in
    entry_named a.src.now (named a.names.now a.z) a.t6.now a.e _ _ _ a.w.now _ c.cell.ensures c.if-cell-z.false c.cell-a.ensures c.cell-b.ensures c.mark_named.ensures.adds
