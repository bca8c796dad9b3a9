-- `reach::visit_production`: the rule is not marked, or the production's symbols are, one by one.
use native.Mathlib.Omega.{arith}
use borrow.Author.Tests.{not-true, not-false}
use Rattle.reach.specs.Reach.{named, net}
use Rattle.reach.proofs.Laws.{symbols_none, symbols_add, symbols_end, rule_unmarked, rule_adds}
use Rattle.reach.proofs.visit_production.Goals as goal

pub returns-then-not-test_bit : goal.returns-then-not-test_bit
returns-then-not-test_bit c =
    let a = c.args in
    (rule_unmarked (net a.src.now a.c a.prods.now a.syms.now) (named a.names.now a.z) a.p _ c.cell-head.ensures a.w.now c.test_bit.result c.test_bit.ensures (not-true _ c.if-not-test_bit.true-raw)).adds

pub loop-s-init : goal.loop-s-init
loop-s-init c = (λ h. omega arith, (symbols_none _ _ c.cell-from.result c.cell-from.result _ (omega arith)).adds)

pub loop-s-preserved : goal.loop-s-preserved
loop-s-preserved c =
    let a = c.args in
    (λ h. omega arith, symbols_add a.syms.now a.z c.cell-from.result c.loop-s.s c.loop-s.auto.s c.loop-s.invariant.1 c.visit_symbol-end.ensures)

pub returns : goal.returns
returns c =
    let a = c.args in
    rule_adds (net a.src.now a.c a.prods.now a.syms.now) (named a.names.now a.z) a.p _ c.cell-head.ensures a.w.now _ _ _ c.test_bit.result c.requires.1 c.requires.2 c.test_bit.ensures (not-false _ c.if-not-test_bit.false-raw) c.cell-from.ensures c.cell-to.ensures
    (symbols_end a.syms.now a.z c.cell-from.result c.cell-to.result c.loop-s.s c.loop-s-test.false c.loop-s.invariant.0 c.loop-s.invariant.1)
