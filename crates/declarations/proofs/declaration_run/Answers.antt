-- `declarations::declaration_run`: what is left of the run of turns stays the same.
use Rattle.scan.proofs.Loop.{left_start, left_more, left_stop}
use Rattle.declarations.specs.Declarations.{decl_turn, decl_run}
use Rattle.declarations.proofs.Laws.{turn_end, turn_more, turn_done, turn_refused}
use mathlib.Core.Path.{refl, sym, ◌∙◌}
use native.Mathlib.Omega.{arith}
use Rattle.declarations.proofs.declaration_run.Goals as goal

pub loop-st-init : goal.loop-st-init
loop-st-init c =
    (refl, refl, refl, refl, refl, refl, refl, refl, refl, refl, refl, refl, c.requires.1, c.requires.2, omega arith, c.requires.0.within, left_start _ _ _ _ (omega arith))

pub overflow_cast-result : goal.overflow_cast-result
overflow_cast-result c = omega (arith, c.loop-st.invariant.15, c.requires.0.short)

pub shape_of-t1-then-src-at : goal.shape_of-t1-then-src-at
shape_of-t1-then-src-at c = c.loop-st.invariant.0

pub shape_of-t2-then-src-at : goal.shape_of-t2-then-src-at
shape_of-t2-then-src-at c = c.loop-st.invariant.1

pub shape_of-t3-then-src-at : goal.shape_of-t3-then-src-at
shape_of-t3-then-src-at c = c.loop-st.invariant.2

pub shape_of-t4-then-src-at : goal.shape_of-t4-then-src-at
shape_of-t4-then-src-at c = c.loop-st.invariant.3

pub shape_of-t5-then-src-at : goal.shape_of-t5-then-src-at
shape_of-t5-then-src-at c = c.loop-st.invariant.4

pub shape_of-t6-then-src-at : goal.shape_of-t6-then-src-at
shape_of-t6-then-src-at c = c.loop-st.invariant.5

pub shape_of-t10-then-src-at : goal.shape_of-t10-then-src-at
shape_of-t10-then-src-at c = c.loop-st.invariant.6

pub shape_of-t15-then-src-at : goal.shape_of-t15-then-src-at
shape_of-t15-then-src-at c = c.loop-st.invariant.7

pub shape_of-t16-then-src-at : goal.shape_of-t16-then-src-at
shape_of-t16-then-src-at c = c.loop-st.invariant.8

pub shape_of-t17-then-src-at : goal.shape_of-t17-then-src-at
shape_of-t17-then-src-at c = c.loop-st.invariant.9

pub shape_of-i1-then-src-at : goal.shape_of-i1-then-src-at
shape_of-i1-then-src-at c = c.loop-st.invariant.10

pub shape_of-fx-then-src-at : goal.shape_of-fx-then-src-at
shape_of-fx-then-src-at c = c.loop-st.invariant.11

pub returns-then-src-at : goal.returns-then-src-at
unfolding decl_run
returns-then-src-at c =
    record {
      is = sym (left_stop (decl_turn _) _ c.loop-st.invariant.16 (turn_end _ c.loop-st.st _ c.if-src-at.true));
      moved = record { onward = c.loop-st.invariant.14; inside = c.loop-st.invariant.15 };
      indexed = (c.loop-st.invariant.12, c.loop-st.invariant.13);
    }

pub declaration-r-requires : goal.declaration-r-requires
declaration-r-requires c = (record { within = c.loop-st.invariant.15; short = c.requires.0.short }, c.loop-st.invariant.12, c.loop-st.invariant.13)

pub loop-st-smaller : goal.loop-st-smaller
loop-st-smaller c =
    let m = c.declaration-r.ensures.moved.beyond c.in-Going.is in
    let n = c.declaration-r.ensures.moved.inside in
    omega arith

pub loop-st-preserved : goal.loop-st-preserved
loop-st-preserved c =
    let e = c.in-Going.is in
    let m = c.declaration-r.ensures.moved.beyond e in
    let n = c.declaration-r.ensures.moved.inside in
    let x = c.declaration-r.ensures.indexed in
    let g = c.loop-st.invariant.14 in
    (c.declaration-r.auto.t1 ∙ c.loop-st.invariant.0, c.declaration-r.auto.t2 ∙ c.loop-st.invariant.1, c.declaration-r.auto.t3 ∙ c.loop-st.invariant.2, c.declaration-r.auto.t4 ∙ c.loop-st.invariant.3, c.declaration-r.auto.t5 ∙ c.loop-st.invariant.4, c.declaration-r.auto.t6 ∙ c.loop-st.invariant.5, c.declaration-r.auto.t10 ∙ c.loop-st.invariant.6, c.declaration-r.auto.t15 ∙ c.loop-st.invariant.7, c.declaration-r.auto.t16 ∙ c.loop-st.invariant.8, c.declaration-r.auto.t17 ∙ c.loop-st.invariant.9, c.declaration-r.auto.i1 ∙ c.loop-st.invariant.10, c.declaration-r.auto.fx ∙ c.loop-st.invariant.11, x.0, x.1, omega arith, n, left_more (decl_turn _) _ c.loop-st.invariant.16 _ (turn_more _ c.loop-st.st _ c.if-src-at.false _ _ _ c.declaration-r.ensures.is e) (omega arith))

pub shape_of-t1-in-Done : goal.shape_of-t1-in-Done
shape_of-t1-in-Done c = c.declaration-r.auto.t1 ∙ c.loop-st.invariant.0

pub shape_of-t2-in-Done : goal.shape_of-t2-in-Done
shape_of-t2-in-Done c = c.declaration-r.auto.t2 ∙ c.loop-st.invariant.1

pub shape_of-t3-in-Done : goal.shape_of-t3-in-Done
shape_of-t3-in-Done c = c.declaration-r.auto.t3 ∙ c.loop-st.invariant.2

pub shape_of-t4-in-Done : goal.shape_of-t4-in-Done
shape_of-t4-in-Done c = c.declaration-r.auto.t4 ∙ c.loop-st.invariant.3

pub shape_of-t5-in-Done : goal.shape_of-t5-in-Done
shape_of-t5-in-Done c = c.declaration-r.auto.t5 ∙ c.loop-st.invariant.4

pub shape_of-t6-in-Done : goal.shape_of-t6-in-Done
shape_of-t6-in-Done c = c.declaration-r.auto.t6 ∙ c.loop-st.invariant.5

pub shape_of-t10-in-Done : goal.shape_of-t10-in-Done
shape_of-t10-in-Done c = c.declaration-r.auto.t10 ∙ c.loop-st.invariant.6

pub shape_of-t15-in-Done : goal.shape_of-t15-in-Done
shape_of-t15-in-Done c = c.declaration-r.auto.t15 ∙ c.loop-st.invariant.7

pub shape_of-t16-in-Done : goal.shape_of-t16-in-Done
shape_of-t16-in-Done c = c.declaration-r.auto.t16 ∙ c.loop-st.invariant.8

pub shape_of-t17-in-Done : goal.shape_of-t17-in-Done
shape_of-t17-in-Done c = c.declaration-r.auto.t17 ∙ c.loop-st.invariant.9

pub shape_of-i1-in-Done : goal.shape_of-i1-in-Done
shape_of-i1-in-Done c = c.declaration-r.auto.i1 ∙ c.loop-st.invariant.10

pub shape_of-fx-in-Done : goal.shape_of-fx-in-Done
shape_of-fx-in-Done c = c.declaration-r.auto.fx ∙ c.loop-st.invariant.11

pub returns-in-Done : goal.returns-in-Done
unfolding decl_run
returns-in-Done c =
    let m = c.declaration-r.ensures.moved.onward in
    let g = c.loop-st.invariant.14 in
    record {
      is = sym (left_stop (decl_turn _) _ c.loop-st.invariant.16 (turn_done _ c.loop-st.st _ c.if-src-at.false _ _ _ c.declaration-r.ensures.is c.in-Done.is));
      moved = record { onward = omega arith; inside = c.declaration-r.ensures.moved.inside };
      indexed = c.declaration-r.ensures.indexed;
    }

pub shape_of-t1-in-Refused : goal.shape_of-t1-in-Refused
shape_of-t1-in-Refused c = c.declaration-r.auto.t1 ∙ c.loop-st.invariant.0

pub shape_of-t2-in-Refused : goal.shape_of-t2-in-Refused
shape_of-t2-in-Refused c = c.declaration-r.auto.t2 ∙ c.loop-st.invariant.1

pub shape_of-t3-in-Refused : goal.shape_of-t3-in-Refused
shape_of-t3-in-Refused c = c.declaration-r.auto.t3 ∙ c.loop-st.invariant.2

pub shape_of-t4-in-Refused : goal.shape_of-t4-in-Refused
shape_of-t4-in-Refused c = c.declaration-r.auto.t4 ∙ c.loop-st.invariant.3

pub shape_of-t5-in-Refused : goal.shape_of-t5-in-Refused
shape_of-t5-in-Refused c = c.declaration-r.auto.t5 ∙ c.loop-st.invariant.4

pub shape_of-t6-in-Refused : goal.shape_of-t6-in-Refused
shape_of-t6-in-Refused c = c.declaration-r.auto.t6 ∙ c.loop-st.invariant.5

pub shape_of-t10-in-Refused : goal.shape_of-t10-in-Refused
shape_of-t10-in-Refused c = c.declaration-r.auto.t10 ∙ c.loop-st.invariant.6

pub shape_of-t15-in-Refused : goal.shape_of-t15-in-Refused
shape_of-t15-in-Refused c = c.declaration-r.auto.t15 ∙ c.loop-st.invariant.7

pub shape_of-t16-in-Refused : goal.shape_of-t16-in-Refused
shape_of-t16-in-Refused c = c.declaration-r.auto.t16 ∙ c.loop-st.invariant.8

pub shape_of-t17-in-Refused : goal.shape_of-t17-in-Refused
shape_of-t17-in-Refused c = c.declaration-r.auto.t17 ∙ c.loop-st.invariant.9

pub shape_of-i1-in-Refused : goal.shape_of-i1-in-Refused
shape_of-i1-in-Refused c = c.declaration-r.auto.i1 ∙ c.loop-st.invariant.10

pub shape_of-fx-in-Refused : goal.shape_of-fx-in-Refused
shape_of-fx-in-Refused c = c.declaration-r.auto.fx ∙ c.loop-st.invariant.11

pub returns-in-Refused : goal.returns-in-Refused
unfolding decl_run
returns-in-Refused c =
    let m = c.declaration-r.ensures.moved.onward in
    let g = c.loop-st.invariant.14 in
    record {
      is = sym (left_stop (decl_turn _) _ c.loop-st.invariant.16 (turn_refused _ c.loop-st.st _ c.if-src-at.false _ _ _ c.declaration-r.ensures.is _ c.in-Refused.is));
      moved = record { onward = omega arith; inside = c.declaration-r.ensures.moved.inside };
      indexed = c.declaration-r.ensures.indexed;
    }
