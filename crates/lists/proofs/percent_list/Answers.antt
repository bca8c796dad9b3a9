-- `lists::percent_list`: what is left of the run of turns stays the same.
use mathlib.Core.Path.{refl, sym, ◌∙◌}
use native.Mathlib.Omega.{arith}
use Rattle.scan.proofs.Loop.{left_start, left_more, left_stop}
use Rattle.lists.proofs.Tracks.{tracks_here, tracks_on}
use Rattle.lists.specs.Lists.{list_turn, percent_list}
use Rattle.lists.proofs.Laws.{turn_end, turn_mark, turn_more, turn_done, turn_refused}
use Rattle.lists.proofs.percent_list.Goals as goal

pub loop-what-init : goal.loop-what-init
loop-what-init c = (refl, refl, refl, refl, c.requires.1, omega arith, omega arith, left_start _ _ _ _ (omega arith))

pub returns-then-src-at : goal.returns-then-src-at
unfolding percent_list
returns-then-src-at c =
    record {
      is = sym (left_stop (list_turn _ _ _) _ c.loop-what.invariant.7 (turn_end _ _ _ c.loop-what.st c.loop-what.t c.loop-what.t15 c.loop-what.t16 c.if-src-at.true));
      moved = record { onward = c.loop-what.invariant.5; inside = c.loop-what.invariant.6 };
      indexed = c.loop-what.invariant.4;
    }

pub bounds-src-at : goal.bounds-src-at
bounds-src-at c = omega arith

pub returns-then-src-at-eq37 : goal.returns-then-src-at-eq37
unfolding percent_list
returns-then-src-at-eq37 c =
    record {
      is = sym (left_stop (list_turn _ _ _) _ c.loop-what.invariant.7 (turn_mark _ _ _ c.loop-what.st c.loop-what.t c.loop-what.t15 c.loop-what.t16 c.if-src-at.false c.if-src-at-eq37.true));
      moved = record { onward = c.loop-what.invariant.5; inside = c.loop-what.invariant.6 };
      indexed = c.loop-what.invariant.4;
    }

pub list_item-r-requires : goal.list_item-r-requires
list_item-r-requires c = (record { within = c.loop-what.invariant.6; short = c.requires.0.short }, tracks_here c.loop-what.invariant.4)

pub loop-what-smaller : goal.loop-what-smaller
loop-what-smaller c =
    let b = c.list_item-r.ensures.moved.beyond c.in-Going.is in
    let n = c.list_item-r.ensures.moved.inside in
    omega arith

pub loop-what-preserved : goal.loop-what-preserved
loop-what-preserved c =
    let e = c.in-Going.is in
    let b = c.list_item-r.ensures.moved.beyond e in
    let n = c.list_item-r.ensures.moved.inside in
    let g = c.loop-what.invariant.5 in (
      c.list_item-r.auto.t ∙ c.loop-what.invariant.0,
      c.list_item-r.auto.t15 ∙ c.loop-what.invariant.1,
      c.list_item-r.auto.t16 ∙ c.loop-what.invariant.2,
      c.list_item-r.auto.ix ∙ c.loop-what.invariant.3,
      tracks_on c.loop-what.invariant.4 c.list_item-r.ensures.indexed,
      omega arith,
      n,
      left_more (list_turn _ _ _) _ c.loop-what.invariant.7 _ (turn_more _ _ _ c.loop-what.st c.loop-what.t c.loop-what.t15 c.loop-what.t16 c.if-src-at.false c.if-src-at-eq37.false _ _ _ _ _ c.list_item-r.ensures.is e) (omega arith),
    )

pub returns-in-Done : goal.returns-in-Done
unfolding percent_list
returns-in-Done c =
    let m = c.list_item-r.ensures.moved.onward in
    let g = c.loop-what.invariant.5 in record {
      is = sym (left_stop (list_turn _ _ _) _ c.loop-what.invariant.7 (turn_done _ _ _ c.loop-what.st c.loop-what.t c.loop-what.t15 c.loop-what.t16 c.if-src-at.false c.if-src-at-eq37.false _ _ _ _ _ c.list_item-r.ensures.is c.in-Done.is));
      moved = record { onward = omega arith; inside = c.list_item-r.ensures.moved.inside };
      indexed = tracks_on c.loop-what.invariant.4 c.list_item-r.ensures.indexed;
    }

pub returns-in-Refused : goal.returns-in-Refused
unfolding percent_list
returns-in-Refused c =
    let m = c.list_item-r.ensures.moved.onward in
    let g = c.loop-what.invariant.5 in record {
      is = sym (left_stop (list_turn _ _ _) _ c.loop-what.invariant.7 (turn_refused _ _ _ c.loop-what.st c.loop-what.t c.loop-what.t15 c.loop-what.t16 c.if-src-at.false c.if-src-at-eq37.false _ _ _ _ _ c.list_item-r.ensures.is _ c.in-Refused.is));
      moved = record { onward = omega arith; inside = c.list_item-r.ensures.moved.inside };
      indexed = tracks_on c.loop-what.invariant.4 c.list_item-r.ensures.indexed;
    }
