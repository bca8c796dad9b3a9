-- `shipper::ship_piece`.
use native.Mathlib.Omega.{arith}
use Rattle.shipper.proofs.Laws.{piece_wrote}
use Rattle.shipper.proofs.ship_piece.Goals as goal

pub returns : goal.returns
returns c =
    let w = c.piece_end-e.ensures.moved in
    let a = w.onward in
    let g = c.gap_end.ensures.moved in
    let b = g.onward in
    record {
      is = piece_wrote _ _ _ _ _ _ c.piece_end-e.ensures.is _ c.gap_end.ensures.is _ _ _ c.put_spaced-m.ensures;
      moved = record { onward = omega arith; inside = g.inside };
    }
