-- `pruner::number_of`: the slot by the kind.
use Rattle.pruner.proofs.Laws.{number_rule, number_token}
use Rattle.pruner.proofs.number_of.Goals as goal

pub returns-then-kind-eq1 : goal.returns-then-kind-eq1
returns-then-kind-eq1 c =
    let a = c.args in
    number_rule a.i1.now a.i7.now a.kind a.r _ c.if-kind-eq1.true c.cell_in_row.ensures

pub returns : goal.returns
returns c =
    let a = c.args in
    number_token a.i1.now a.i7.now a.kind a.r _ c.if-kind-eq1.false c.cell_in_row-2.ensures
