-- `shipper::list_ends`.
use Rattle.shipper.proofs.Laws.{ends_out, ends_here}
use Rattle.shipper.proofs.list_ends.Goals as goal

pub returns-then-src-at : goal.returns-then-src-at
returns-then-src-at c = ends_out _ _ c.if-src-at.true

pub returns : goal.returns
returns c = ends_here _ _ c.if-src-at.false
