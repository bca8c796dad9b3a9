-- `shipper::ship_all`.
use mathlib.Core.Path.{◌∙◌}
use Rattle.shipper.proofs.Laws.{all_wrote}
use Rattle.shipper.proofs.ship_all.Goals as goal

pub ship_declarations-d-requires : goal.ship_declarations-d-requires
ship_declarations-d-requires c = record { within = c.gap_end.ensures.moved.inside; short = c.requires.short }

pub rules_from-requires : goal.rules_from-requires
rules_from-requires c = record { within = c.ship_declarations-d.ensures.moved.inside; short = c.requires.short }

pub ship_rules-r-requires : goal.ship_rules-r-requires
ship_rules-r-requires c = record { within = c.rules_from.ensures.moved.inside; short = c.requires.short }

pub ship_programs-p-requires : goal.ship_programs-p-requires
ship_programs-p-requires c = record { within = c.ship_rules-r.ensures.moved.inside; short = c.requires.short }

pub shape_of-out : goal.shape_of-out
shape_of-out c = c.ship_programs-p.auto.out ∙ c.ship_rules-r.auto.out ∙ c.put_text-m.auto.out ∙ c.ship_declarations-d.auto.out

pub returns : goal.returns
returns c =
    all_wrote _ _ _ _ c.gap_end.ensures.is _ _ _ c.ship_declarations-d.ensures.is _ _ c.put_text-m.ensures _ c.rules_from.ensures.is _ _ _ c.ship_rules-r.ensures.is _ c.ship_programs-p.ensures.is
