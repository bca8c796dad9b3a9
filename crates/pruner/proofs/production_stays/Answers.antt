-- `pruner::production_stays`: the bit is that of its rule.
use Rattle.pruner.proofs.Laws.{rule_stays_lem}
use Rattle.pruner.proofs.production_stays.Goals as goal

pub returns : goal.returns
returns c =
    let a = c.args in
    rule_stays_lem a.ws.now a.t8.now a.p _ _ c.cell-rule.ensures c.test_bit.ensures
