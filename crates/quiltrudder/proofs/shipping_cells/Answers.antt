-- `quiltrudder::shipping_cells`: a reading's numbers behind those of the answer, and the count in halves behind them.
use Rattle.quiltrudder.proofs.shipping_cells.Goals as goal

pub returns : goal.returns
returns c = rw (← c.of_shipment.ensures, ← c.sent_bytes-n.ensures) c.reading_cells.ensures
