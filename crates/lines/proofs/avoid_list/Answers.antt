-- `lines::avoid_list`: the loop's turns are those of its definition.
use mathlib.Core.Path.{refl, sym, ◌∙◌}
use native.Mathlib.Omega.{arith}
use Rattle.scan.proofs.Loop.{left_start, left_more, left_stop}
use Rattle.finder.proofs.Laws.{grown_none, grown_on}
use Rattle.lines.specs.Avoided.{avoid_turn, avoid_list}
use Rattle.lines.proofs.Laws.{avoid_more, avoid_done, avoid_refused}
use Rattle.lines.proofs.avoid_list.Goals as goal

pub loop-st-init : goal.loop-st-init
loop-st-init c =
    (refl, refl, refl, refl, refl, c.requires.1, c.requires.4, grown_none _, omega arith, c.requires.0.within, left_start _ _ _ _ (omega arith))

pub avoid_item-r-requires : goal.avoid_item-r-requires
avoid_item-r-requires c =
    (record { within = c.loop-st.invariant.9; short = c.requires.0.short }, c.loop-st.invariant.5, c.requires.2, c.requires.3, c.loop-st.invariant.6)

pub loop-st-smaller : goal.loop-st-smaller
loop-st-smaller c =
    let m = c.avoid_item-r.ensures.moved in
    let f = m.beyond c.in-Going.is in
    omega (arith, f, m.inside)

pub loop-st-preserved : goal.loop-st-preserved
loop-st-preserved c =
    let m = c.avoid_item-r.ensures.moved in
    let f = m.beyond c.in-Going.is in (
      c.avoid_item-r.auto.t1 ∙ c.loop-st.invariant.0,
      c.avoid_item-r.auto.t ∙ c.loop-st.invariant.1,
      c.avoid_item-r.auto.t10 ∙ c.loop-st.invariant.2,
      c.avoid_item-r.auto.i1 ∙ c.loop-st.invariant.3,
      c.avoid_item-r.auto.fx ∙ c.loop-st.invariant.4,
      c.avoid_item-r.ensures.indexed.0,
      c.avoid_item-r.ensures.indexed.1.0,
      grown_on _ _ _ c.loop-st.invariant.7 c.avoid_item-r.ensures.indexed.1.1,
      omega (arith, c.loop-st.invariant.8, f),
      m.inside,
      left_more (avoid_turn _ _ _) _ c.loop-st.invariant.10 _ (avoid_more _ _ _ c.loop-st.st c.loop-st.t1 c.loop-st.t c.loop-st.t10 c.avoid_item-r.ensures.is c.in-Going.is) (omega (arith, f, m.inside)),
    )

pub returns-in-Done : goal.returns-in-Done
unfolding avoid_list
returns-in-Done c =
    let m = c.avoid_item-r.ensures.moved in
    record {
      is = sym (left_stop (avoid_turn _ _ _) _ c.loop-st.invariant.10 (avoid_done _ _ _ c.loop-st.st c.loop-st.t1 c.loop-st.t c.loop-st.t10 c.avoid_item-r.ensures.is c.in-Done.is));
      moved = record { onward = omega (arith, c.loop-st.invariant.8, m.onward); inside = m.inside };
      indexed = (c.avoid_item-r.ensures.indexed.0, (c.avoid_item-r.ensures.indexed.1.0, grown_on _ _ _ c.loop-st.invariant.7 c.avoid_item-r.ensures.indexed.1.1));
    }

pub returns-in-Refused : goal.returns-in-Refused
unfolding avoid_list
returns-in-Refused c =
    let m = c.avoid_item-r.ensures.moved in
    record {
      is = sym (left_stop (avoid_turn _ _ _) _ c.loop-st.invariant.10 (avoid_refused _ _ _ c.loop-st.st c.loop-st.t1 c.loop-st.t c.loop-st.t10 c.avoid_item-r.ensures.is _ c.in-Refused.is));
      moved = record { onward = omega (arith, c.loop-st.invariant.8, m.onward); inside = m.inside };
      indexed = (c.avoid_item-r.ensures.indexed.0, (c.avoid_item-r.ensures.indexed.1.0, grown_on _ _ _ c.loop-st.invariant.7 c.avoid_item-r.ensures.indexed.1.1));
    }
