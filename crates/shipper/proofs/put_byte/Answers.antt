-- `shipper::put_byte`.
use Rattle.shipper.proofs.Laws.{byte_is}
use Rattle.shipper.proofs.put_byte.Goals as goal

pub returns : goal.returns
returns c = byte_is _ _ _ _ _ c.next_count.ensures c.set_byte.ensures
