-- `pruner::keep_symbols`: a production's symbols join or are passed over.
use borrow.Author.Tests.{not-true, not-false}
use Rattle.pruner.proofs.Symbols.{symbols_pass, symbols_join}
use Rattle.pruner.proofs.keep_symbols.Goals as goal

pub returns-then-not-production_stays : goal.returns-then-not-production_stays
returns-then-not-production_stays c =
    let a = c.args in
    symbols_pass a.i1.now a.i7.now _ _ a.m a.t9.now _ _ c.production_stays.ensures (not-true _ c.if-not-production_stays.true-raw)

pub returns : goal.returns
returns c =
    let a = c.args in
    symbols_join a.i1.now a.i7.now _ _ a.m a.t9.now _ _ c.production_stays.ensures (not-false _ c.if-not-production_stays.false-raw) _ c.cell-from.ensures _ c.cell-to.ensures _ c.move_symbols.ensures
