-- `shipper::ship_list`.
use mathlib.Core.Path.{◌∙◌}
use native.Mathlib.Omega.{arith}
use Rattle.shipper.proofs.Laws.{list_none, list_wrote}
use Rattle.shipper.proofs.ship_list.Goals as goal

pub returns-then-list_ends : goal.returns-then-list_ends
returns-then-list_ends c =
    record {
      is = list_none _ _ _ _ _ _ c.list_ends.ensures c.if-list_ends.true _ _;
      moved = record { onward = omega arith; inside = c.requires.within };
    }

pub shape_of-out : goal.shape_of-out
shape_of-out c = c.put_byte-k.auto.out ∙ c.ship_words-r.auto.out ∙ c.put_text-m.auto.out

pub returns : goal.returns
returns c =
    record {
      is = list_wrote _ _ _ _ _ _ c.list_ends.ensures c.if-list_ends.false _ _ _ _ c.put_text-m.ensures _ _ _ c.ship_words-r.ensures.is _ _ c.put_byte-k.ensures;
      moved = c.ship_words-r.ensures.moved;
    }
