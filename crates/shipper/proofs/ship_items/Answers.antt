-- `shipper::ship_items`: pieces as long as they move on.
use mathlib.Core.Path.{refl, ◌∙◌}
use native.Mathlib.Omega.{arith}
use Rattle.shipper.specs.Ship.{ship_items}
use Rattle.shipper.proofs.Laws.{sofar_start, sofar_last, sofar_stays, sofar_moves, items_last, items_turn_lem, item_wrote}
use Rattle.shipper.proofs.ship_items.Goals as goal

pub loop-r-init : goal.loop-r-init
loop-r-init c = (refl, omega arith, c.requires.within, sofar_start _ _ _ _ _ _ (omega arith))

pub look_item-seen-requires : goal.look_item-seen-requires
look_item-seen-requires c = c.loop-r.invariant.2

pub ship_sort-r-requires : goal.ship_sort-r-requires
ship_sort-r-requires c =
    let s = c.look_item-seen.ensures.moved in
    let l = c.loop-r.invariant.2 in
    (record { within = l; short = c.requires.short }, record { within = s.inside; short = c.requires.short }, s.onward)

pub shape_of-out-then-is_end : goal.shape_of-out-then-is_end
shape_of-out-then-is_end c = c.ship_sort-r.auto.out ∙ c.loop-r.invariant.0

pub returns-then-is_end : goal.returns-then-is_end
unfolding ship_items
returns-then-is_end c =
    let a = c.ship_sort-r.ensures.moved.onward in
    let i = c.loop-r.invariant.1 in
    record {
      is = sofar_last _ _ _ _ _ _ _ _ _ c.loop-r.invariant.3 _ (items_last _ _ _ _ c.look_item-seen.ensures.is _ c.is_end.ensures c.if-is_end.true) _ (item_wrote _ _ _ _ _ _ _ c.look_item-seen.ensures.is c.ship_sort-r.ensures.is);
      moved = record { onward = omega arith; inside = c.ship_sort-r.ensures.moved.inside };
    }

pub shape_of-out-then-r-i : goal.shape_of-out-then-r-i
shape_of-out-then-r-i c = c.ship_sort-r.auto.out ∙ c.loop-r.invariant.0

pub returns-then-r-i : goal.returns-then-r-i
unfolding ship_items
returns-then-r-i c =
    let a = c.ship_sort-r.ensures.moved.onward in
    let i = c.loop-r.invariant.1 in
    record {
      is = sofar_stays _ _ _ _ _ _ _ _ _ c.loop-r.invariant.3 _ (items_turn_lem _ _ _ _ c.look_item-seen.ensures.is _ c.is_end.ensures c.if-is_end.false) _ _ _ (item_wrote _ _ _ _ _ _ _ c.look_item-seen.ensures.is c.ship_sort-r.ensures.is) c.if-r-i.true;
      moved = record { onward = omega arith; inside = c.ship_sort-r.ensures.moved.inside };
    }

pub loop-r-smaller : goal.loop-r-smaller
loop-r-smaller c =
    let r = c.ship_sort-r.ensures.moved in
    let a = r.onward in
    let b = r.inside in
    let h = c.if-r-i.false in
    omega arith

pub loop-r-preserved : goal.loop-r-preserved
loop-r-preserved c =
    let b = c.ship_sort-r.ensures.moved.inside in
    let h = c.if-r-i.false in
    let i = c.loop-r.invariant.1 in (
      c.ship_sort-r.auto.out ∙ c.loop-r.invariant.0,
      omega arith,
      b,
      sofar_moves _ _ _ _ _ _ _ _ _ c.loop-r.invariant.3 _ (items_turn_lem _ _ _ _ c.look_item-seen.ensures.is _ c.is_end.ensures c.if-is_end.false) _ _ _ (item_wrote _ _ _ _ _ _ _ c.look_item-seen.ensures.is c.ship_sort-r.ensures.is) h _ (omega arith),
    )
