-- `shipper::has_arrow`.
use Rattle.shipper.proofs.Laws.{arrow_not, arrow_is}
use Rattle.shipper.proofs.has_arrow.Goals as goal

pub returns-then-kind-ne2 : goal.returns-then-kind-ne2
returns-then-kind-ne2 c = arrow_not _ _ _ c.if-kind-ne2.true

pub returns : goal.returns
returns c = arrow_is _ _ _ _ c.if-kind-ne2.false c.starts.ensures
