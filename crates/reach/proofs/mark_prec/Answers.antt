-- `reach::mark_prec`: the production has no `%prec`, its rule is not marked, or the name is marked.
use borrow.Author.Tests.{not-true, not-false}
use Rattle.reach.specs.Reach.{named}
use Rattle.reach.proofs.Laws.{prec_absent, prec_unmarked, prec_named}
use Rattle.reach.proofs.mark_prec.Goals as goal

pub returns-then-cell-ne1 : goal.returns-then-cell-ne1
returns-then-cell-ne1 c =
    let a = c.args in
    prec_absent a.src.now a.prods.now (named a.names.now a.z) a.p _ a.w.now c.cell.ensures c.if-cell-ne1.true

pub returns-then-not-test_bit : goal.returns-then-not-test_bit
returns-then-not-test_bit c =
    let a = c.args in
    prec_unmarked a.src.now a.prods.now (named a.names.now a.z) a.p _ a.w.now c.test_bit.result c.cell-owner.ensures c.test_bit.ensures (not-true _ c.if-not-test_bit.true-raw)

pub returns : goal.returns
returns c =
    let a = c.args in
    prec_named a.src.now a.prods.now (named a.names.now a.z) a.p _ _ _ _ a.w.now _ c.test_bit.result _ c.cell.ensures c.if-cell-ne1.false c.cell-owner.ensures c.test_bit.ensures (not-false _ c.if-not-test_bit.false-raw) c.cell-a.ensures c.cell-b.ensures c.mark_named.ensures
