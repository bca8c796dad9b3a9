-- `pruner::move_symbol`: numbered in its old place, then moved.
use Rattle.pruner.proofs.Symbols.{moved_symbol_lem}
use Rattle.pruner.proofs.move_symbol.Goals as goal

pub returns : goal.returns
returns c =
    let a = c.args in
    moved_symbol_lem a.i1.now a.i7.now a.from a.to a.t9.now _ c.cell-kind.ensures _ c.cell-old.ensures _ c.number_of-new.ensures _ c.set_cell.ensures _ c.move_row.ensures
