-- `shipper::ship_one`.
use mathlib.Core.Path.{◌∙◌}
use native.Mathlib.Omega.{arith}
use Rattle.shipper.proofs.Laws.{one_wrote}
use Rattle.shipper.proofs.ship_one.Goals as goal

pub shape_of-out : goal.shape_of-out
shape_of-out c = c.put_byte-l.auto.out ∙ c.put_spaced-k.auto.out ∙ c.put_text-m.auto.out

pub returns : goal.returns
returns c =
    let w = c.piece_end-e.ensures.moved in
    let a = w.onward in
    let g = c.gap_end.ensures.moved in
    let b = g.onward in
    record {
      is = one_wrote _ _ _ _ _ _ c.piece_end-e.ensures.is _ c.gap_end.ensures.is _ _ _ _ c.put_text-m.ensures _ _ c.put_spaced-k.ensures _ _ c.put_byte-l.ensures;
      moved = record { onward = omega arith; inside = g.inside };
    }
