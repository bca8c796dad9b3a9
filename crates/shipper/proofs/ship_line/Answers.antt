-- `shipper::ship_line`.
use mathlib.Core.Path.{◌∙◌}
use Rattle.shipper.proofs.Laws.{line_wrote}
use Rattle.shipper.proofs.ship_line.Goals as goal

pub shape_of-out : goal.shape_of-out
shape_of-out c = c.put_byte-k.auto.out ∙ c.line_words-r.auto.out ∙ c.put_text-m.auto.out

pub returns : goal.returns
returns c =
    record {
      is = line_wrote _ _ _ _ _ _ _ _ c.put_text-m.ensures _ _ _ c.line_words-r.ensures.is _ _ c.put_byte-k.ensures;
      moved = c.line_words-r.ensures.moved;
    }
