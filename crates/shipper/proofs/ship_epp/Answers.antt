-- `shipper::ship_epp`.
use mathlib.Core.Path.{◌∙◌}
use native.Mathlib.Omega.{arith}
use Rattle.shipper.proofs.Laws.{epp_wrote}
use Rattle.shipper.proofs.ship_epp.Goals as goal

pub put_spaced-b-requires : goal.put_spaced-b-requires
put_spaced-b-requires c = c.token_end-e.ensures.moved.inside

pub put_spaced-c-requires : goal.put_spaced-c-requires
put_spaced-c-requires c = c.string_end-l.ensures.moved.inside

pub gap_end-requires : goal.gap_end-requires
gap_end-requires c = record { within = c.string_end-l.ensures.moved.inside; short = c.requires.short }

pub shape_of-out : goal.shape_of-out
shape_of-out c = c.put_byte-d.auto.out ∙ c.put_spaced-c.auto.out ∙ c.put_spaced-b.auto.out ∙ c.put_text-a.auto.out

pub returns : goal.returns
returns c =
    let w = c.token_end-e.ensures.moved.onward in
    let g = c.gap_end-k.ensures.moved.onward in
    let l = c.string_end-l.ensures.moved.onward in
    let z = c.gap_end.ensures.moved in
    let b = z.onward in
    record {
      is = epp_wrote _ _ _ _ _ _ _ _ _ _ _ _ c.put_text-a.ensures c.gap_end.ensures.is _ _ c.put_spaced-b.ensures c.token_end-e.ensures.is c.gap_end-k.ensures.is c.string_end-l.ensures.is _ _ c.put_spaced-c.ensures _ _ c.put_byte-d.ensures;
      moved = record { onward = omega arith; inside = z.inside };
    }
