-- `shipper::put_text`.
use Rattle.shipper.proofs.Laws.{text_is}
use Rattle.shipper.proofs.put_text.Goals as goal

pub returns : goal.returns
returns c = text_is _ _ _ _ c.put_part.ensures
