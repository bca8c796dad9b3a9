-- `shipper::ship_param`.
use mathlib.Core.Path.{◌∙◌}
use native.Mathlib.Omega.{arith}
use Rattle.shipper.proofs.Laws.{param_wrote, line_is}
use Rattle.shipper.proofs.ship_param.Goals as goal

pub put_spaced-b-requires : goal.put_spaced-b-requires
put_spaced-b-requires c = c.colon_end-e.ensures.moved.inside

pub put_spaced-d-requires : goal.put_spaced-d-requires
put_spaced-d-requires c = c.parse_to_eol-l.ensures.lined.inside

pub gap_end-requires : goal.gap_end-requires
gap_end-requires c = record { within = c.parse_to_eol-l.ensures.lined.inside; short = c.requires.short }

pub shape_of-out : goal.shape_of-out
shape_of-out c = c.put_byte-f.auto.out ∙ c.put_spaced-d.auto.out ∙ c.put_byte-c.auto.out ∙ c.put_spaced-b.auto.out ∙ c.put_text-a.auto.out

pub returns : goal.returns
returns c =
    let w = c.colon_end-e.ensures.moved.onward in
    let p = c.past_colon.ensures.moved.onward in
    let g = c.gap_end-k.ensures.moved.onward in
    let l = c.parse_to_eol-l.ensures.lined.onward in
    let z = c.gap_end.ensures.moved in
    let b = z.onward in
    record {
      is = param_wrote _ _ _ _ _ _ _ _ _ _ _ _ c.put_text-a.ensures c.gap_end.ensures.is _ _ c.put_spaced-b.ensures c.colon_end-e.ensures.is _ c.past_colon.ensures.is c.gap_end-k.ensures.is (line_is _ _ _ c.parse_to_eol-l.ensures.value) _ _ c.put_byte-c.ensures _ _ c.put_spaced-d.ensures _ _ c.put_byte-f.ensures;
      moved = record { onward = omega arith; inside = z.inside };
    }
