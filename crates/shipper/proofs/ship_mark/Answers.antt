-- `shipper::ship_mark`.
use Rattle.shipper.proofs.Laws.{wrote_at}
use Rattle.shipper.proofs.ship_mark.Goals as goal

pub returns : goal.returns
returns c =
    record {
      is = wrote_at _ _ _ _ _ _ _ c.put_text-m.ensures c.gap_end.ensures.is;
      moved = c.gap_end.ensures.moved;
    }
