-- `reach::mark_production`: the rule is not marked, or the production's symbols are.
use borrow.Author.Tests.{not-true, not-false}
use Rattle.reach.specs.Reach.{named, net}
use Rattle.reach.proofs.Laws.{rule_unmarked, rule_marked}
use Rattle.reach.proofs.mark_production.Goals as goal

pub returns-then-not-test_bit : goal.returns-then-not-test_bit
returns-then-not-test_bit c =
    let a = c.args in
    rule_unmarked (net a.src.now a.c a.prods.now a.syms.now) (named a.names.now a.z) a.p _ c.cell-rule.ensures a.w.now c.test_bit.result c.test_bit.ensures (not-true _ c.if-not-test_bit.true-raw)

pub returns : goal.returns
returns c =
    let a = c.args in
    rule_marked (net a.src.now a.c a.prods.now a.syms.now) (named a.names.now a.z) a.p _ c.cell-rule.ensures a.w.now _ _ _ c.test_bit.result _ c.requires.1 c.requires.2 c.test_bit.ensures (not-false _ c.if-not-test_bit.false-raw) c.cell-from.ensures c.cell-to.ensures c.mark_symbols.ensures
