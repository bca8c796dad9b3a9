-- `shipper::ship_head`: without a type and with one.
use mathlib.Core.Path.{◌∙◌}
use native.Mathlib.Omega.{arith}
use borrow.Author.Tests.{not-true, not-false}
use Rattle.shipper.proofs.Laws.{head_plain, head_typed, arrow_fits}
use Rattle.shipper.proofs.ship_head.Goals as goal

pub put_part-m-requires : goal.put_part-m-requires
put_part-m-requires c = c.name_end-e.ensures.moved.inside

pub past_colon-requires : goal.past_colon-requires
past_colon-requires c = record { within = c.gap_end-j.ensures.moved.inside; short = c.requires.short }

pub ship_mark-requires : goal.ship_mark-requires
ship_mark-requires c = record { within = c.past_colon.ensures.moved.inside; short = c.requires.short }

pub shape_of-out-then-not-has_arrow : goal.shape_of-out-then-not-has_arrow
shape_of-out-then-not-has_arrow c = c.ship_mark.auto.out ∙ c.put_part-m.auto.out

pub returns-then-not-has_arrow : goal.returns-then-not-has_arrow
returns-then-not-has_arrow c =
    let a = c.name_end-e.ensures.moved.onward in
    let b = c.gap_end-j.ensures.moved.onward in
    let d = c.past_colon.ensures.moved.onward in
    let e = c.ship_mark.ensures.moved.onward in
    record {
      is = head_plain _ _ _ _ _ _ _ c.name_end-e.ensures.is _ c.gap_end-j.ensures.is _ _ c.put_part-m.ensures _ c.has_arrow.ensures (not-true _ c.if-not-has_arrow.true-raw) _ c.past_colon.ensures.is c.ship_mark.ensures.is;
      moved = record { onward = omega arith; inside = c.ship_mark.ensures.moved.inside };
    }

pub gap_end-k-requires : goal.gap_end-k-requires
gap_end-k-requires c = record { within = arrow_fits _ _ _ _ c.has_arrow.ensures (not-false _ c.if-not-has_arrow.false-raw); short = c.requires.short }

pub colon_end-l-requires : goal.colon_end-l-requires
colon_end-l-requires c = record { within = c.gap_end-k.ensures.moved.inside; short = c.requires.short }

pub put_spaced-b-requires : goal.put_spaced-b-requires
put_spaced-b-requires c = c.colon_end-l.ensures.moved.inside

pub past_colon-requires-2 : goal.past_colon-requires-2
past_colon-requires-2 c = record { within = c.colon_end-l.ensures.moved.inside; short = c.requires.short }

pub ship_mark-requires-2 : goal.ship_mark-requires-2
ship_mark-requires-2 c = record { within = c.past_colon-2.ensures.moved.inside; short = c.requires.short }

pub shape_of-out : goal.shape_of-out
shape_of-out c = c.ship_mark-2.auto.out ∙ c.put_spaced-b.auto.out ∙ c.put_text-a.auto.out ∙ c.put_part-m.auto.out

pub returns : goal.returns
returns c =
    let a = c.name_end-e.ensures.moved.onward in
    let b = c.gap_end-j.ensures.moved.onward in
    let f = c.gap_end-k.ensures.moved.onward in
    let g = c.colon_end-l.ensures.moved.onward in
    let d = c.past_colon-2.ensures.moved.onward in
    let e = c.ship_mark-2.ensures.moved.onward in
    record {
      is = head_typed _ _ _ _ _ _ _ c.name_end-e.ensures.is _ c.gap_end-j.ensures.is _ _ c.put_part-m.ensures _ c.has_arrow.ensures (not-false _ c.if-not-has_arrow.false-raw) _ _ c.put_text-a.ensures _ c.gap_end-k.ensures.is _ c.colon_end-l.ensures.is _ _ c.put_spaced-b.ensures _ c.past_colon-2.ensures.is c.ship_mark-2.ensures.is;
      moved = record { onward = omega arith; inside = c.ship_mark-2.ensures.moved.inside };
    }
