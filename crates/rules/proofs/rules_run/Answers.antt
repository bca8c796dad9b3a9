-- `rules::rules_run`: the loop's turns are those of its definition.
use mathlib.Core.Path.{refl, sym, ◌∙◌}
use native.Mathlib.Omega.{arith}
use Rattle.scan.proofs.Loop.{left_start, left_more, left_stop}
use Rattle.rules.specs.Rules.{rules_turn, rules_run}
use Rattle.rules.proofs.Laws.{turn_end, turn_percents, turn_more, turn_done, turn_refused}
use Rattle.rules.proofs.rules_run.Goals as goal

pub loop-st-init : goal.loop-st-init
loop-st-init c =
    (refl, refl, refl, refl, refl, refl, c.requires.1, c.requires.2, omega arith, c.requires.0.within, left_start _ _ _ _ (omega arith))

pub returns-then-src-at : goal.returns-then-src-at
unfolding rules_run
returns-then-src-at c =
    record {
      is = sym (left_stop (rules_turn _) _ c.loop-st.invariant.10 (turn_end _ c.loop-st.st _ _ _ _ c.if-src-at.true));
      moved = record { onward = c.loop-st.invariant.8; inside = c.loop-st.invariant.9 };
      indexed = (c.loop-st.invariant.6, c.loop-st.invariant.7);
    }

pub returns-then-starts : goal.returns-then-starts
unfolding rules_run
returns-then-starts c =
    record {
      is = sym (left_stop (rules_turn _) _ c.loop-st.invariant.10 (turn_percents _ c.loop-st.st _ _ _ _ c.if-src-at.false _ c.starts.ensures c.if-starts.true));
      moved = record { onward = c.loop-st.invariant.8; inside = c.loop-st.invariant.9 };
      indexed = (c.loop-st.invariant.6, c.loop-st.invariant.7);
    }

pub next_rule-r-requires : goal.next_rule-r-requires
next_rule-r-requires c = (record { within = c.loop-st.invariant.9; short = c.requires.0.short }, c.loop-st.invariant.6, c.loop-st.invariant.7)

pub loop-st-smaller : goal.loop-st-smaller
loop-st-smaller c =
    let m = c.next_rule-r.ensures.moved.beyond c.in-Going.is in
    let n = c.next_rule-r.ensures.moved.inside in
    omega arith

pub loop-st-preserved : goal.loop-st-preserved
loop-st-preserved c =
    let e = c.in-Going.is in
    let m = c.next_rule-r.ensures.moved.beyond e in
    let n = c.next_rule-r.ensures.moved.inside in
    let g = c.loop-st.invariant.8 in (
      c.next_rule-r.auto.t1 ∙ c.loop-st.invariant.0,
      c.next_rule-r.auto.t7 ∙ c.loop-st.invariant.1,
      c.next_rule-r.auto.t8 ∙ c.loop-st.invariant.2,
      c.next_rule-r.auto.t9 ∙ c.loop-st.invariant.3,
      c.next_rule-r.auto.i1 ∙ c.loop-st.invariant.4,
      c.next_rule-r.auto.i7 ∙ c.loop-st.invariant.5,
      c.next_rule-r.ensures.indexed.0,
      c.next_rule-r.ensures.indexed.1,
      omega arith,
      n,
      left_more (rules_turn _) _ c.loop-st.invariant.10 _ (turn_more _ c.loop-st.st _ _ _ _ c.if-src-at.false _ c.starts.ensures c.if-starts.false _ _ _ _ _ _ c.next_rule-r.ensures.is e) (omega arith),
    )

pub shape_of-t1-in-Done : goal.shape_of-t1-in-Done
shape_of-t1-in-Done c = c.next_rule-r.auto.t1 ∙ c.loop-st.invariant.0

pub shape_of-t7-in-Done : goal.shape_of-t7-in-Done
shape_of-t7-in-Done c = c.next_rule-r.auto.t7 ∙ c.loop-st.invariant.1

pub shape_of-t8-in-Done : goal.shape_of-t8-in-Done
shape_of-t8-in-Done c = c.next_rule-r.auto.t8 ∙ c.loop-st.invariant.2

pub shape_of-t9-in-Done : goal.shape_of-t9-in-Done
shape_of-t9-in-Done c = c.next_rule-r.auto.t9 ∙ c.loop-st.invariant.3

pub shape_of-i1-in-Done : goal.shape_of-i1-in-Done
shape_of-i1-in-Done c = c.next_rule-r.auto.i1 ∙ c.loop-st.invariant.4

pub shape_of-i7-in-Done : goal.shape_of-i7-in-Done
shape_of-i7-in-Done c = c.next_rule-r.auto.i7 ∙ c.loop-st.invariant.5

pub returns-in-Done : goal.returns-in-Done
unfolding rules_run
returns-in-Done c =
    let m = c.next_rule-r.ensures.moved.onward in
    let g = c.loop-st.invariant.8 in
    record {
      is = sym (left_stop (rules_turn _) _ c.loop-st.invariant.10 (turn_done _ c.loop-st.st _ _ _ _ c.if-src-at.false _ c.starts.ensures c.if-starts.false _ _ _ _ _ _ c.next_rule-r.ensures.is c.in-Done.is));
      moved = record { onward = omega arith; inside = c.next_rule-r.ensures.moved.inside };
      indexed = c.next_rule-r.ensures.indexed;
    }

pub shape_of-t1-in-Refused : goal.shape_of-t1-in-Refused
shape_of-t1-in-Refused c = c.next_rule-r.auto.t1 ∙ c.loop-st.invariant.0

pub shape_of-t7-in-Refused : goal.shape_of-t7-in-Refused
shape_of-t7-in-Refused c = c.next_rule-r.auto.t7 ∙ c.loop-st.invariant.1

pub shape_of-t8-in-Refused : goal.shape_of-t8-in-Refused
shape_of-t8-in-Refused c = c.next_rule-r.auto.t8 ∙ c.loop-st.invariant.2

pub shape_of-t9-in-Refused : goal.shape_of-t9-in-Refused
shape_of-t9-in-Refused c = c.next_rule-r.auto.t9 ∙ c.loop-st.invariant.3

pub shape_of-i1-in-Refused : goal.shape_of-i1-in-Refused
shape_of-i1-in-Refused c = c.next_rule-r.auto.i1 ∙ c.loop-st.invariant.4

pub shape_of-i7-in-Refused : goal.shape_of-i7-in-Refused
shape_of-i7-in-Refused c = c.next_rule-r.auto.i7 ∙ c.loop-st.invariant.5

pub returns-in-Refused : goal.returns-in-Refused
unfolding rules_run
returns-in-Refused c =
    let m = c.next_rule-r.ensures.moved.onward in
    let g = c.loop-st.invariant.8 in
    record {
      is = sym (left_stop (rules_turn _) _ c.loop-st.invariant.10 (turn_refused _ c.loop-st.st _ _ _ _ c.if-src-at.false _ c.starts.ensures c.if-starts.false _ _ _ _ _ _ c.next_rule-r.ensures.is _ c.in-Refused.is));
      moved = record { onward = omega arith; inside = c.next_rule-r.ensures.moved.inside };
      indexed = c.next_rule-r.ensures.indexed;
    }
