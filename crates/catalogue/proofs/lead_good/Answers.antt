-- `catalogue::lead_good`.
use Rattle.catalogue.proofs.Laws.{lead_one, lead_zero}
use Rattle.catalogue.proofs.lead_good.Goals as goal

pub returns-then-m-k-eq1 : goal.returns-then-m-k-eq1
returns-then-m-k-eq1 c =
    let a = c.args in
    lead_one a.m.now a.k a.n c.if-m-k-eq1.true

pub returns : goal.returns
returns c =
    let a = c.args in
    lead_zero a.m.now a.k a.n _ c.if-m-k-eq1.false c.zero_cells.ensures
