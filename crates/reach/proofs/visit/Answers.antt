-- `reach::visit`: the rule is done, or the production is marked.
use Rattle.reach.specs.Reach.{named, net}
use Rattle.reach.proofs.Laws.{visit_done, visit_held}
use Rattle.reach.proofs.visit.Goals as goal

pub returns-then-test_bit : goal.returns-then-test_bit
returns-then-test_bit c =
    let a = c.args in
    visit_done (net a.src.now a.c a.prods.now a.syms.now) (named a.names.now a.z) a.p _ c.cell-rule.ensures a.w.now a.done.now _ c.test_bit.ensures c.if-test_bit.true

pub returns : goal.returns
returns c = visit_held _ _ _ _ _ _ _ c.mark_production.ensures
