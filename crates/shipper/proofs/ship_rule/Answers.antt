-- `shipper::ship_rule`.
use mathlib.Core.Path.{◌∙◌}
use native.Mathlib.Omega.{arith}
use Rattle.shipper.proofs.Laws.{rule_wrote}
use Rattle.shipper.proofs.ship_rule.Goals as goal

pub ship_items-requires : goal.ship_items-requires
ship_items-requires c = record { within = c.ship_head-h.ensures.moved.inside; short = c.requires.short }

pub shape_of-out : goal.shape_of-out
shape_of-out c = c.ship_items.auto.out ∙ c.ship_head-h.auto.out

pub returns : goal.returns
returns c =
    let a = c.ship_head-h.ensures.moved.onward in
    let b = c.ship_items.ensures.moved.onward in
    record {
      is = rule_wrote _ _ _ _ _ _ _ _ _ c.ship_head-h.ensures.is c.ship_items.ensures.is;
      moved = record { onward = omega arith; inside = c.ship_items.ensures.moved.inside };
    }
