-- `pruner::keep_production`: numbered in its old place, then moved, or passed over.
use native.Mathlib.Omega.{arith}
use borrow.Author.Tests.{not-true, not-false}
use Rattle.pruner.proofs.Productions.{link_pass, link_join}
use Rattle.pruner.proofs.keep_production.Goals as goal

pub returns-then-not-production_stays : goal.returns-then-not-production_stays
returns-then-not-production_stays c =
    let a = c.args in
    link_pass a.i7.now a.p a.m a.e a.t8.now _ _ c.production_stays.ensures (not-true _ c.if-not-production_stays.true-raw)

pub move_row-requires : goal.move_row-requires
move_row-requires c = (c.requires.0, omega (arith, c.requires.2, c.set_cell-3.auto.t, c.set_cell-2.auto.t, c.set_cell.auto.t))

pub overflow_add-result : goal.overflow_add-result
overflow_add-result c = omega (arith, c.requires.0, c.requires.1)

pub returns : goal.returns
returns c =
    let a = c.args in
    link_join a.i7.now a.p a.m a.e a.t8.now _ _ c.production_stays.ensures (not-false _ c.if-not-production_stays.false-raw) _ _ _ _ c.cell-rule.ensures c.cell-from.ensures c.cell-to.ensures c.cell_in_row-new.ensures _ _ _ _ c.set_cell.ensures c.set_cell-2.ensures c.set_cell-3.ensures c.move_row.ensures
