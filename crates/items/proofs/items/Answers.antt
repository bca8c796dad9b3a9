-- `items::items`: the loop's turns are those of its definition.
use mathlib.Core.Path.{refl, sym, ◌∙◌, ap}
use native.Mathlib.Omega.{arith}
use Rattle.scan.proofs.Loop.{left_start, left_more, left_stop}
use Rattle.items.specs.Items.{with_to, item_turn, listed, item_list}
use Rattle.items.proofs.Turns.{turn_end, turn_more, turn_done, turn_refused}
use Rattle.items.proofs.Runs.{stands_run}
use Rattle.items.proofs.items.Goals as goal

pub loop-draft-init : goal.loop-draft-init
loop-draft-init c =
    (refl, refl, refl, refl, record { tokens = c.requires.1; onward = omega arith; inside = c.requires.0.within; left = left_start _ _ _ _ (omega arith) })

pub count_of-tokens-requires : goal.count_of-tokens-requires
count_of-tokens-requires c = tt

pub count_of-symbols-requires : goal.count_of-symbols-requires
count_of-symbols-requires c = tt

pub symbol_run-run-requires : goal.symbol_run-run-requires
symbol_run-run-requires c =
    let i = c.loop-draft.invariant.4 in
    (record { within = i.inside; short = c.requires.0.short }, rw c.count_of-tokens.ensures i.tokens.held)

pub after_run-st-requires : goal.after_run-st-requires
after_run-st-requires c = tt

-- in what follows, a is behind the run, and b is what stands there
pub overflow_cast-result : goal.overflow_cast-result
overflow_cast-result c =
    let b = stands_run _ _ _ _ _ _ _ _ _ _ c.loop-draft.invariant.4 _ _ _ _ _ _ _ _ _ c.count_of-tokens.ensures c.count_of-symbols.ensures c.symbol_run-run.ensures.is c.symbol_run-run.ensures.moved c.symbol_run-run.ensures.indexed _ c.after_run-st.ensures in
    omega (arith, b.inside, c.requires.0.short)

pub shape_of-t1-then-src-at : goal.shape_of-t1-then-src-at
shape_of-t1-then-src-at c = c.symbol_run-run.auto.t1 ∙ c.loop-draft.invariant.0

pub shape_of-t8-then-src-at : goal.shape_of-t8-then-src-at
shape_of-t8-then-src-at c = c.loop-draft.invariant.1

pub shape_of-t9-then-src-at : goal.shape_of-t9-then-src-at
shape_of-t9-then-src-at c = c.symbol_run-run.auto.t9 ∙ c.loop-draft.invariant.2

pub shape_of-i1-then-src-at : goal.shape_of-i1-then-src-at
shape_of-i1-then-src-at c = c.symbol_run-run.auto.i1 ∙ c.loop-draft.invariant.3

pub returns-then-src-at : goal.returns-then-src-at
unfolding item_list
returns-then-src-at c =
    let b = stands_run _ _ _ _ _ _ _ _ _ _ c.loop-draft.invariant.4 _ _ _ _ _ _ _ _ _ c.count_of-tokens.ensures c.count_of-symbols.ensures c.symbol_run-run.ensures.is c.symbol_run-run.ensures.moved c.symbol_run-run.ensures.indexed _ c.after_run-st.ensures in
    record {
      is = ap listed (sym (left_stop (item_turn _) _ b.left (turn_end _ c.after_run-st.result (with_to c.loop-draft.draft c.symbol_run-run.result.to) _ _ _ c.if-src-at.true)));
      moved = record { onward = b.onward; inside = b.inside };
      indexed = b.tokens;
    }

pub item-r-requires : goal.item-r-requires
item-r-requires c =
    let b = stands_run _ _ _ _ _ _ _ _ _ _ c.loop-draft.invariant.4 _ _ _ _ _ _ _ _ _ c.count_of-tokens.ensures c.count_of-symbols.ensures c.symbol_run-run.ensures.is c.symbol_run-run.ensures.moved c.symbol_run-run.ensures.indexed _ c.after_run-st.ensures in
    (record { within = b.inside; short = c.requires.0.short }, b.tokens)

pub loop-draft-smaller : goal.loop-draft-smaller
loop-draft-smaller c =
    let e = ap (λ s. s.at) c.after_run-st.ensures in
    let p = c.symbol_run-run.ensures.moved.onward in
    let m = c.item-r.ensures.moved.beyond c.in-Going.is in
    let n = c.item-r.ensures.moved.inside in
    omega (arith, e, p, m, n)

pub loop-draft-preserved : goal.loop-draft-preserved
loop-draft-preserved c =
    let b = stands_run _ _ _ _ _ _ _ _ _ _ c.loop-draft.invariant.4 _ _ _ _ _ _ _ _ _ c.count_of-tokens.ensures c.count_of-symbols.ensures c.symbol_run-run.ensures.is c.symbol_run-run.ensures.moved c.symbol_run-run.ensures.indexed _ c.after_run-st.ensures in
    let e = c.in-Going.is in
    let m = c.item-r.ensures.moved.beyond e in
    let n = c.item-r.ensures.moved.inside in
    let g = b.onward in (
      c.item-r.auto.t1 ∙ c.symbol_run-run.auto.t1 ∙ c.loop-draft.invariant.0,
      c.item-r.auto.t8 ∙ c.loop-draft.invariant.1,
      c.item-r.auto.t9 ∙ c.symbol_run-run.auto.t9 ∙ c.loop-draft.invariant.2,
      c.item-r.auto.i1 ∙ c.symbol_run-run.auto.i1 ∙ c.loop-draft.invariant.3,
      record {
        tokens = c.item-r.ensures.indexed;
        onward = omega (arith, m, g);
        inside = n;
        left = left_more (item_turn _) _ b.left _ (turn_more _ c.after_run-st.result (with_to c.loop-draft.draft c.symbol_run-run.result.to) _ _ _ c.if-src-at.false _ _ _ _ _ _ c.item-r.ensures.is e) (omega (arith, m, n));
      },
    )

pub shape_of-t1-in-Done : goal.shape_of-t1-in-Done
shape_of-t1-in-Done c = c.item-r.auto.t1 ∙ c.symbol_run-run.auto.t1 ∙ c.loop-draft.invariant.0

pub shape_of-t8-in-Done : goal.shape_of-t8-in-Done
shape_of-t8-in-Done c = c.item-r.auto.t8 ∙ c.loop-draft.invariant.1

pub shape_of-t9-in-Done : goal.shape_of-t9-in-Done
shape_of-t9-in-Done c = c.item-r.auto.t9 ∙ c.symbol_run-run.auto.t9 ∙ c.loop-draft.invariant.2

pub shape_of-i1-in-Done : goal.shape_of-i1-in-Done
shape_of-i1-in-Done c = c.item-r.auto.i1 ∙ c.symbol_run-run.auto.i1 ∙ c.loop-draft.invariant.3

pub returns-in-Done : goal.returns-in-Done
unfolding item_list
returns-in-Done c =
    let b = stands_run _ _ _ _ _ _ _ _ _ _ c.loop-draft.invariant.4 _ _ _ _ _ _ _ _ _ c.count_of-tokens.ensures c.count_of-symbols.ensures c.symbol_run-run.ensures.is c.symbol_run-run.ensures.moved c.symbol_run-run.ensures.indexed _ c.after_run-st.ensures in
    let m = c.item-r.ensures.moved.onward in
    let g = b.onward in
    record {
      is = ap listed (sym (left_stop (item_turn _) _ b.left (turn_done _ c.after_run-st.result (with_to c.loop-draft.draft c.symbol_run-run.result.to) _ _ _ c.if-src-at.false _ _ _ _ _ _ c.item-r.ensures.is c.in-Done.is)));
      moved = record { onward = omega (arith, m, g); inside = c.item-r.ensures.moved.inside };
      indexed = c.item-r.ensures.indexed;
    }

pub shape_of-t1-in-Refused : goal.shape_of-t1-in-Refused
shape_of-t1-in-Refused c = c.item-r.auto.t1 ∙ c.symbol_run-run.auto.t1 ∙ c.loop-draft.invariant.0

pub shape_of-t8-in-Refused : goal.shape_of-t8-in-Refused
shape_of-t8-in-Refused c = c.item-r.auto.t8 ∙ c.loop-draft.invariant.1

pub shape_of-t9-in-Refused : goal.shape_of-t9-in-Refused
shape_of-t9-in-Refused c = c.item-r.auto.t9 ∙ c.symbol_run-run.auto.t9 ∙ c.loop-draft.invariant.2

pub shape_of-i1-in-Refused : goal.shape_of-i1-in-Refused
shape_of-i1-in-Refused c = c.item-r.auto.i1 ∙ c.symbol_run-run.auto.i1 ∙ c.loop-draft.invariant.3

pub returns-in-Refused : goal.returns-in-Refused
unfolding item_list
returns-in-Refused c =
    let b = stands_run _ _ _ _ _ _ _ _ _ _ c.loop-draft.invariant.4 _ _ _ _ _ _ _ _ _ c.count_of-tokens.ensures c.count_of-symbols.ensures c.symbol_run-run.ensures.is c.symbol_run-run.ensures.moved c.symbol_run-run.ensures.indexed _ c.after_run-st.ensures in
    let m = c.item-r.ensures.moved.onward in
    let g = b.onward in
    record {
      is = ap listed (sym (left_stop (item_turn _) _ b.left (turn_refused _ c.after_run-st.result (with_to c.loop-draft.draft c.symbol_run-run.result.to) _ _ _ c.if-src-at.false _ _ _ _ _ _ c.item-r.ensures.is _ c.in-Refused.is)));
      moved = record { onward = omega (arith, m, g); inside = c.item-r.ensures.moved.inside };
      indexed = c.item-r.ensures.indexed;
    }
