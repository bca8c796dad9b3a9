-- `items::look_item`: behind each test, the later marks are tried.
use mathlib.Core.Path.{◌≡◌, refl, ◌∙◌}
use native.Mathlib.Omega.{arith}
use lib.ListN.{drop}
use Rattle.items.specs.Items.{marks, first_mark, sort_at}
use Rattle.items.proofs.Marks.{mark_hit, mark_miss, mark_none, sort_placed}
use Rattle.items.proofs.look_item.Goals as goal

pub overflow_add-at : goal.overflow_add-at
overflow_add-at c = omega (arith, c.requires, c.well_formed)

pub returns-then-starts : goal.returns-then-starts
unfolding sort_at
returns-then-starts c =
    let it = sort_placed _ _ c.requires _ (c.spot.ensures ∙ mark_hit _ _ _ _ _ c.starts.ensures c.if-starts.true ∙ (let it : (first_mark (drop 0 marks) c.args.src.now c.args.at ≡ sort_at c.args.src.now c.args.at) = refl in it)) in
    record { is = it.0; moved = it.1 }

pub overflow_add-at-then-starts-2 : goal.overflow_add-at-then-starts-2
overflow_add-at-then-starts-2 c = omega (arith, c.requires, c.well_formed)

pub returns-then-starts-2 : goal.returns-then-starts-2
unfolding sort_at
returns-then-starts-2 c =
    let it = sort_placed _ _ c.requires _ (c.spot-then-starts-2.ensures ∙ mark_hit _ _ _ _ _ c.starts-2.ensures c.if-starts-2.true ∙ (mark_miss _ _ _ _ _ c.starts.ensures c.if-starts.false ∙ (let it : (first_mark (drop 0 marks) c.args.src.now c.args.at ≡ sort_at c.args.src.now c.args.at) = refl in it))) in
    record { is = it.0; moved = it.1 }

pub overflow_add-at-then-starts-3 : goal.overflow_add-at-then-starts-3
overflow_add-at-then-starts-3 c = omega (arith, c.requires, c.well_formed)

pub returns-then-starts-3 : goal.returns-then-starts-3
unfolding sort_at
returns-then-starts-3 c =
    let it = sort_placed _ _ c.requires _ (c.spot-then-starts-3.ensures ∙ mark_hit _ _ _ _ _ c.starts-3.ensures c.if-starts-3.true ∙ (mark_miss _ _ _ _ _ c.starts-2.ensures c.if-starts-2.false ∙ (mark_miss _ _ _ _ _ c.starts.ensures c.if-starts.false ∙ (let it : (first_mark (drop 0 marks) c.args.src.now c.args.at ≡ sort_at c.args.src.now c.args.at) = refl in it)))) in
    record { is = it.0; moved = it.1 }

pub overflow_add-at-then-starts-4 : goal.overflow_add-at-then-starts-4
overflow_add-at-then-starts-4 c = omega (arith, c.requires, c.well_formed)

pub returns-then-starts-4 : goal.returns-then-starts-4
unfolding sort_at
returns-then-starts-4 c =
    let it = sort_placed _ _ c.requires _ (c.spot-then-starts-4.ensures ∙ mark_hit _ _ _ _ _ c.starts-4.ensures c.if-starts-4.true ∙ (mark_miss _ _ _ _ _ c.starts-3.ensures c.if-starts-3.false ∙ (mark_miss _ _ _ _ _ c.starts-2.ensures c.if-starts-2.false ∙ (mark_miss _ _ _ _ _ c.starts.ensures c.if-starts.false ∙ (let it : (first_mark (drop 0 marks) c.args.src.now c.args.at ≡ sort_at c.args.src.now c.args.at) = refl in it))))) in
    record { is = it.0; moved = it.1 }

pub overflow_add-at-then-starts-5 : goal.overflow_add-at-then-starts-5
overflow_add-at-then-starts-5 c = omega (arith, c.requires, c.well_formed)

pub returns-then-starts-5 : goal.returns-then-starts-5
unfolding sort_at
returns-then-starts-5 c =
    let it = sort_placed _ _ c.requires _ (c.spot-then-starts-5.ensures ∙ mark_hit _ _ _ _ _ c.starts-5.ensures c.if-starts-5.true ∙ (mark_miss _ _ _ _ _ c.starts-4.ensures c.if-starts-4.false ∙ (mark_miss _ _ _ _ _ c.starts-3.ensures c.if-starts-3.false ∙ (mark_miss _ _ _ _ _ c.starts-2.ensures c.if-starts-2.false ∙ (mark_miss _ _ _ _ _ c.starts.ensures c.if-starts.false ∙ (let it : (first_mark (drop 0 marks) c.args.src.now c.args.at ≡ sort_at c.args.src.now c.args.at) = refl in it)))))) in
    record { is = it.0; moved = it.1 }

pub overflow_add-at-then-starts-6 : goal.overflow_add-at-then-starts-6
overflow_add-at-then-starts-6 c = omega (arith, c.requires, c.well_formed)

pub returns-then-starts-6 : goal.returns-then-starts-6
unfolding sort_at
returns-then-starts-6 c =
    let it = sort_placed _ _ c.requires _ (c.spot-then-starts-6.ensures ∙ mark_hit _ _ _ _ _ c.starts-6.ensures c.if-starts-6.true ∙ (mark_miss _ _ _ _ _ c.starts-5.ensures c.if-starts-5.false ∙ (mark_miss _ _ _ _ _ c.starts-4.ensures c.if-starts-4.false ∙ (mark_miss _ _ _ _ _ c.starts-3.ensures c.if-starts-3.false ∙ (mark_miss _ _ _ _ _ c.starts-2.ensures c.if-starts-2.false ∙ (mark_miss _ _ _ _ _ c.starts.ensures c.if-starts.false ∙ (let it : (first_mark (drop 0 marks) c.args.src.now c.args.at ≡ sort_at c.args.src.now c.args.at) = refl in it))))))) in
    record { is = it.0; moved = it.1 }

pub overflow_add-at-then-starts-7 : goal.overflow_add-at-then-starts-7
overflow_add-at-then-starts-7 c = omega (arith, c.requires, c.well_formed)

pub returns-then-starts-7 : goal.returns-then-starts-7
unfolding sort_at
returns-then-starts-7 c =
    let it = sort_placed _ _ c.requires _ (c.spot-then-starts-7.ensures ∙ mark_hit _ _ _ _ _ c.starts-7.ensures c.if-starts-7.true ∙ (mark_miss _ _ _ _ _ c.starts-6.ensures c.if-starts-6.false ∙ (mark_miss _ _ _ _ _ c.starts-5.ensures c.if-starts-5.false ∙ (mark_miss _ _ _ _ _ c.starts-4.ensures c.if-starts-4.false ∙ (mark_miss _ _ _ _ _ c.starts-3.ensures c.if-starts-3.false ∙ (mark_miss _ _ _ _ _ c.starts-2.ensures c.if-starts-2.false ∙ (mark_miss _ _ _ _ _ c.starts.ensures c.if-starts.false ∙ (let it : (first_mark (drop 0 marks) c.args.src.now c.args.at ≡ sort_at c.args.src.now c.args.at) = refl in it)))))))) in
    record { is = it.0; moved = it.1 }

-- the answer where none stands here
pub returns : goal.returns
unfolding sort_at
returns c =
    let it = sort_placed _ _ c.requires _ (c.spot-2.ensures ∙ mark_none _ _ ∙ mark_miss _ _ _ _ _ c.starts-7.ensures c.if-starts-7.false ∙ (mark_miss _ _ _ _ _ c.starts-6.ensures c.if-starts-6.false ∙ (mark_miss _ _ _ _ _ c.starts-5.ensures c.if-starts-5.false ∙ (mark_miss _ _ _ _ _ c.starts-4.ensures c.if-starts-4.false ∙ (mark_miss _ _ _ _ _ c.starts-3.ensures c.if-starts-3.false ∙ (mark_miss _ _ _ _ _ c.starts-2.ensures c.if-starts-2.false ∙ (mark_miss _ _ _ _ _ c.starts.ensures c.if-starts.false ∙ (let it : (first_mark (drop 0 marks) c.args.src.now c.args.at ≡ sort_at c.args.src.now c.args.at) = refl in it)))))))) in
    record { is = it.0; moved = it.1 }
