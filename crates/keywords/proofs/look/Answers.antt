-- `keywords::look`: behind each test, the later entries are tried.
use mathlib.Core.Path.{◌≡◌, refl, ◌∙◌}
use Prim.Native.Nat.{ℕ}
use mathlib.Core.List.{List}
use lib.ListN.{drop}
use Rattle.keywords.specs.Keywords.{keywords, first_of, seen_at}
use Rattle.keywords.proofs.Laws.{first_hit, first_miss, first_none, seen_placed}
use Rattle.keywords.proofs.look.Goals as goal

-- before the first test all entries are tried
at_first : (kind : ℕ) (src : List ℕ) (at : ℕ) → first_of (drop 0 keywords) kind src at ≡ seen_at kind src at
unfolding seen_at
at_first kind src at = refl

pub returns-then-starts : goal.returns-then-starts
returns-then-starts c =
    let it = seen_placed _ _ _ c.requires _ (c.at_end.ensures ∙ first_hit _ _ _ _ _ _ c.starts.ensures c.if-starts.true ∙ (at_first _ _ _)) in
    record { is = it.0; moved = it.1 }

pub returns-then-starts-2 : goal.returns-then-starts-2
returns-then-starts-2 c =
    let it = seen_placed _ _ _ c.requires _ (c.at_end-then-starts-2.ensures ∙ first_hit _ _ _ _ _ _ c.starts-2.ensures c.if-starts-2.true ∙ (first_miss _ _ _ _ _ _ c.starts.ensures c.if-starts.false ∙ (at_first _ _ _))) in
    record { is = it.0; moved = it.1 }

pub returns-then-kind-starts : goal.returns-then-kind-starts
returns-then-kind-starts c =
    let it = seen_placed _ _ _ c.requires _ (c.at_end-then-kind-starts.ensures ∙ first_hit _ _ _ _ _ _ c.starts-3.ensures c.if-kind-starts.true ∙ (first_miss _ _ _ _ _ _ c.starts-2.ensures c.if-starts-2.false ∙ (first_miss _ _ _ _ _ _ c.starts.ensures c.if-starts.false ∙ (at_first _ _ _)))) in
    record { is = it.0; moved = it.1 }

pub returns-then-starts-3 : goal.returns-then-starts-3
returns-then-starts-3 c =
    let it = seen_placed _ _ _ c.requires _ (c.at_end-then-starts-3.ensures ∙ first_hit _ _ _ _ _ _ c.starts-4.ensures c.if-starts-3.true ∙ (first_miss _ _ _ _ _ _ c.starts-3.ensures c.if-kind-starts.false ∙ (first_miss _ _ _ _ _ _ c.starts-2.ensures c.if-starts-2.false ∙ (first_miss _ _ _ _ _ _ c.starts.ensures c.if-starts.false ∙ (at_first _ _ _))))) in
    record { is = it.0; moved = it.1 }

pub returns-then-starts-4 : goal.returns-then-starts-4
returns-then-starts-4 c =
    let it = seen_placed _ _ _ c.requires _ (c.at_end-then-starts-4.ensures ∙ first_hit _ _ _ _ _ _ c.starts-5.ensures c.if-starts-4.true ∙ (first_miss _ _ _ _ _ _ c.starts-4.ensures c.if-starts-3.false ∙ (first_miss _ _ _ _ _ _ c.starts-3.ensures c.if-kind-starts.false ∙ (first_miss _ _ _ _ _ _ c.starts-2.ensures c.if-starts-2.false ∙ (first_miss _ _ _ _ _ _ c.starts.ensures c.if-starts.false ∙ (at_first _ _ _)))))) in
    record { is = it.0; moved = it.1 }

pub returns-then-starts-5 : goal.returns-then-starts-5
returns-then-starts-5 c =
    let it = seen_placed _ _ _ c.requires _ (c.at_end-then-starts-5.ensures ∙ first_hit _ _ _ _ _ _ c.starts-6.ensures c.if-starts-5.true ∙ (first_miss _ _ _ _ _ _ c.starts-5.ensures c.if-starts-4.false ∙ (first_miss _ _ _ _ _ _ c.starts-4.ensures c.if-starts-3.false ∙ (first_miss _ _ _ _ _ _ c.starts-3.ensures c.if-kind-starts.false ∙ (first_miss _ _ _ _ _ _ c.starts-2.ensures c.if-starts-2.false ∙ (first_miss _ _ _ _ _ _ c.starts.ensures c.if-starts.false ∙ (at_first _ _ _))))))) in
    record { is = it.0; moved = it.1 }

pub returns-then-starts-6 : goal.returns-then-starts-6
returns-then-starts-6 c =
    let it = seen_placed _ _ _ c.requires _ (c.at_end-then-starts-6.ensures ∙ first_hit _ _ _ _ _ _ c.starts-7.ensures c.if-starts-6.true ∙ (first_miss _ _ _ _ _ _ c.starts-6.ensures c.if-starts-5.false ∙ (first_miss _ _ _ _ _ _ c.starts-5.ensures c.if-starts-4.false ∙ (first_miss _ _ _ _ _ _ c.starts-4.ensures c.if-starts-3.false ∙ (first_miss _ _ _ _ _ _ c.starts-3.ensures c.if-kind-starts.false ∙ (first_miss _ _ _ _ _ _ c.starts-2.ensures c.if-starts-2.false ∙ (first_miss _ _ _ _ _ _ c.starts.ensures c.if-starts.false ∙ (at_first _ _ _)))))))) in
    record { is = it.0; moved = it.1 }

pub returns-then-starts-7 : goal.returns-then-starts-7
returns-then-starts-7 c =
    let it = seen_placed _ _ _ c.requires _ (c.at_end-then-starts-7.ensures ∙ first_hit _ _ _ _ _ _ c.starts-8.ensures c.if-starts-7.true ∙ (first_miss _ _ _ _ _ _ c.starts-7.ensures c.if-starts-6.false ∙ (first_miss _ _ _ _ _ _ c.starts-6.ensures c.if-starts-5.false ∙ (first_miss _ _ _ _ _ _ c.starts-5.ensures c.if-starts-4.false ∙ (first_miss _ _ _ _ _ _ c.starts-4.ensures c.if-starts-3.false ∙ (first_miss _ _ _ _ _ _ c.starts-3.ensures c.if-kind-starts.false ∙ (first_miss _ _ _ _ _ _ c.starts-2.ensures c.if-starts-2.false ∙ (first_miss _ _ _ _ _ _ c.starts.ensures c.if-starts.false ∙ (at_first _ _ _))))))))) in
    record { is = it.0; moved = it.1 }

pub returns-then-starts-8 : goal.returns-then-starts-8
returns-then-starts-8 c =
    let it = seen_placed _ _ _ c.requires _ (c.at_end-then-starts-8.ensures ∙ first_hit _ _ _ _ _ _ c.starts-9.ensures c.if-starts-8.true ∙ (first_miss _ _ _ _ _ _ c.starts-8.ensures c.if-starts-7.false ∙ (first_miss _ _ _ _ _ _ c.starts-7.ensures c.if-starts-6.false ∙ (first_miss _ _ _ _ _ _ c.starts-6.ensures c.if-starts-5.false ∙ (first_miss _ _ _ _ _ _ c.starts-5.ensures c.if-starts-4.false ∙ (first_miss _ _ _ _ _ _ c.starts-4.ensures c.if-starts-3.false ∙ (first_miss _ _ _ _ _ _ c.starts-3.ensures c.if-kind-starts.false ∙ (first_miss _ _ _ _ _ _ c.starts-2.ensures c.if-starts-2.false ∙ (first_miss _ _ _ _ _ _ c.starts.ensures c.if-starts.false ∙ (at_first _ _ _)))))))))) in
    record { is = it.0; moved = it.1 }

pub returns-then-starts-9 : goal.returns-then-starts-9
returns-then-starts-9 c =
    let it = seen_placed _ _ _ c.requires _ (c.at_end-then-starts-9.ensures ∙ first_hit _ _ _ _ _ _ c.starts-10.ensures c.if-starts-9.true ∙ (first_miss _ _ _ _ _ _ c.starts-9.ensures c.if-starts-8.false ∙ (first_miss _ _ _ _ _ _ c.starts-8.ensures c.if-starts-7.false ∙ (first_miss _ _ _ _ _ _ c.starts-7.ensures c.if-starts-6.false ∙ (first_miss _ _ _ _ _ _ c.starts-6.ensures c.if-starts-5.false ∙ (first_miss _ _ _ _ _ _ c.starts-5.ensures c.if-starts-4.false ∙ (first_miss _ _ _ _ _ _ c.starts-4.ensures c.if-starts-3.false ∙ (first_miss _ _ _ _ _ _ c.starts-3.ensures c.if-kind-starts.false ∙ (first_miss _ _ _ _ _ _ c.starts-2.ensures c.if-starts-2.false ∙ (first_miss _ _ _ _ _ _ c.starts.ensures c.if-starts.false ∙ (at_first _ _ _))))))))))) in
    record { is = it.0; moved = it.1 }

pub returns-then-starts-10 : goal.returns-then-starts-10
returns-then-starts-10 c =
    let it = seen_placed _ _ _ c.requires _ (c.at_end-then-starts-10.ensures ∙ first_hit _ _ _ _ _ _ c.starts-11.ensures c.if-starts-10.true ∙ (first_miss _ _ _ _ _ _ c.starts-10.ensures c.if-starts-9.false ∙ (first_miss _ _ _ _ _ _ c.starts-9.ensures c.if-starts-8.false ∙ (first_miss _ _ _ _ _ _ c.starts-8.ensures c.if-starts-7.false ∙ (first_miss _ _ _ _ _ _ c.starts-7.ensures c.if-starts-6.false ∙ (first_miss _ _ _ _ _ _ c.starts-6.ensures c.if-starts-5.false ∙ (first_miss _ _ _ _ _ _ c.starts-5.ensures c.if-starts-4.false ∙ (first_miss _ _ _ _ _ _ c.starts-4.ensures c.if-starts-3.false ∙ (first_miss _ _ _ _ _ _ c.starts-3.ensures c.if-kind-starts.false ∙ (first_miss _ _ _ _ _ _ c.starts-2.ensures c.if-starts-2.false ∙ (first_miss _ _ _ _ _ _ c.starts.ensures c.if-starts.false ∙ (at_first _ _ _)))))))))))) in
    record { is = it.0; moved = it.1 }

pub returns-then-kind-starts-2 : goal.returns-then-kind-starts-2
returns-then-kind-starts-2 c =
    let it = seen_placed _ _ _ c.requires _ (c.at_end-then-kind-starts-2.ensures ∙ first_hit _ _ _ _ _ _ c.starts-12.ensures c.if-kind-starts-2.true ∙ (first_miss _ _ _ _ _ _ c.starts-11.ensures c.if-starts-10.false ∙ (first_miss _ _ _ _ _ _ c.starts-10.ensures c.if-starts-9.false ∙ (first_miss _ _ _ _ _ _ c.starts-9.ensures c.if-starts-8.false ∙ (first_miss _ _ _ _ _ _ c.starts-8.ensures c.if-starts-7.false ∙ (first_miss _ _ _ _ _ _ c.starts-7.ensures c.if-starts-6.false ∙ (first_miss _ _ _ _ _ _ c.starts-6.ensures c.if-starts-5.false ∙ (first_miss _ _ _ _ _ _ c.starts-5.ensures c.if-starts-4.false ∙ (first_miss _ _ _ _ _ _ c.starts-4.ensures c.if-starts-3.false ∙ (first_miss _ _ _ _ _ _ c.starts-3.ensures c.if-kind-starts.false ∙ (first_miss _ _ _ _ _ _ c.starts-2.ensures c.if-starts-2.false ∙ (first_miss _ _ _ _ _ _ c.starts.ensures c.if-starts.false ∙ (at_first _ _ _))))))))))))) in
    record { is = it.0; moved = it.1 }

pub returns-then-starts-11 : goal.returns-then-starts-11
returns-then-starts-11 c =
    let it = seen_placed _ _ _ c.requires _ (c.at_end-then-starts-11.ensures ∙ first_hit _ _ _ _ _ _ c.starts-13.ensures c.if-starts-11.true ∙ (first_miss _ _ _ _ _ _ c.starts-12.ensures c.if-kind-starts-2.false ∙ (first_miss _ _ _ _ _ _ c.starts-11.ensures c.if-starts-10.false ∙ (first_miss _ _ _ _ _ _ c.starts-10.ensures c.if-starts-9.false ∙ (first_miss _ _ _ _ _ _ c.starts-9.ensures c.if-starts-8.false ∙ (first_miss _ _ _ _ _ _ c.starts-8.ensures c.if-starts-7.false ∙ (first_miss _ _ _ _ _ _ c.starts-7.ensures c.if-starts-6.false ∙ (first_miss _ _ _ _ _ _ c.starts-6.ensures c.if-starts-5.false ∙ (first_miss _ _ _ _ _ _ c.starts-5.ensures c.if-starts-4.false ∙ (first_miss _ _ _ _ _ _ c.starts-4.ensures c.if-starts-3.false ∙ (first_miss _ _ _ _ _ _ c.starts-3.ensures c.if-kind-starts.false ∙ (first_miss _ _ _ _ _ _ c.starts-2.ensures c.if-starts-2.false ∙ (first_miss _ _ _ _ _ _ c.starts.ensures c.if-starts.false ∙ (at_first _ _ _)))))))))))))) in
    record { is = it.0; moved = it.1 }

pub returns-then-starts-12 : goal.returns-then-starts-12
returns-then-starts-12 c =
    let it = seen_placed _ _ _ c.requires _ (c.at_end-then-starts-12.ensures ∙ first_hit _ _ _ _ _ _ c.starts-14.ensures c.if-starts-12.true ∙ (first_miss _ _ _ _ _ _ c.starts-13.ensures c.if-starts-11.false ∙ (first_miss _ _ _ _ _ _ c.starts-12.ensures c.if-kind-starts-2.false ∙ (first_miss _ _ _ _ _ _ c.starts-11.ensures c.if-starts-10.false ∙ (first_miss _ _ _ _ _ _ c.starts-10.ensures c.if-starts-9.false ∙ (first_miss _ _ _ _ _ _ c.starts-9.ensures c.if-starts-8.false ∙ (first_miss _ _ _ _ _ _ c.starts-8.ensures c.if-starts-7.false ∙ (first_miss _ _ _ _ _ _ c.starts-7.ensures c.if-starts-6.false ∙ (first_miss _ _ _ _ _ _ c.starts-6.ensures c.if-starts-5.false ∙ (first_miss _ _ _ _ _ _ c.starts-5.ensures c.if-starts-4.false ∙ (first_miss _ _ _ _ _ _ c.starts-4.ensures c.if-starts-3.false ∙ (first_miss _ _ _ _ _ _ c.starts-3.ensures c.if-kind-starts.false ∙ (first_miss _ _ _ _ _ _ c.starts-2.ensures c.if-starts-2.false ∙ (first_miss _ _ _ _ _ _ c.starts.ensures c.if-starts.false ∙ (at_first _ _ _))))))))))))))) in
    record { is = it.0; moved = it.1 }

pub returns-then-starts-13 : goal.returns-then-starts-13
returns-then-starts-13 c =
    let it = seen_placed _ _ _ c.requires _ (c.at_end-then-starts-13.ensures ∙ first_hit _ _ _ _ _ _ c.starts-15.ensures c.if-starts-13.true ∙ (first_miss _ _ _ _ _ _ c.starts-14.ensures c.if-starts-12.false ∙ (first_miss _ _ _ _ _ _ c.starts-13.ensures c.if-starts-11.false ∙ (first_miss _ _ _ _ _ _ c.starts-12.ensures c.if-kind-starts-2.false ∙ (first_miss _ _ _ _ _ _ c.starts-11.ensures c.if-starts-10.false ∙ (first_miss _ _ _ _ _ _ c.starts-10.ensures c.if-starts-9.false ∙ (first_miss _ _ _ _ _ _ c.starts-9.ensures c.if-starts-8.false ∙ (first_miss _ _ _ _ _ _ c.starts-8.ensures c.if-starts-7.false ∙ (first_miss _ _ _ _ _ _ c.starts-7.ensures c.if-starts-6.false ∙ (first_miss _ _ _ _ _ _ c.starts-6.ensures c.if-starts-5.false ∙ (first_miss _ _ _ _ _ _ c.starts-5.ensures c.if-starts-4.false ∙ (first_miss _ _ _ _ _ _ c.starts-4.ensures c.if-starts-3.false ∙ (first_miss _ _ _ _ _ _ c.starts-3.ensures c.if-kind-starts.false ∙ (first_miss _ _ _ _ _ _ c.starts-2.ensures c.if-starts-2.false ∙ (first_miss _ _ _ _ _ _ c.starts.ensures c.if-starts.false ∙ (at_first _ _ _)))))))))))))))) in
    record { is = it.0; moved = it.1 }

pub returns-then-kind-starts-3 : goal.returns-then-kind-starts-3
returns-then-kind-starts-3 c =
    let it = seen_placed _ _ _ c.requires _ (c.at_end-then-kind-starts-3.ensures ∙ first_hit _ _ _ _ _ _ c.starts-16.ensures c.if-kind-starts-3.true ∙ (first_miss _ _ _ _ _ _ c.starts-15.ensures c.if-starts-13.false ∙ (first_miss _ _ _ _ _ _ c.starts-14.ensures c.if-starts-12.false ∙ (first_miss _ _ _ _ _ _ c.starts-13.ensures c.if-starts-11.false ∙ (first_miss _ _ _ _ _ _ c.starts-12.ensures c.if-kind-starts-2.false ∙ (first_miss _ _ _ _ _ _ c.starts-11.ensures c.if-starts-10.false ∙ (first_miss _ _ _ _ _ _ c.starts-10.ensures c.if-starts-9.false ∙ (first_miss _ _ _ _ _ _ c.starts-9.ensures c.if-starts-8.false ∙ (first_miss _ _ _ _ _ _ c.starts-8.ensures c.if-starts-7.false ∙ (first_miss _ _ _ _ _ _ c.starts-7.ensures c.if-starts-6.false ∙ (first_miss _ _ _ _ _ _ c.starts-6.ensures c.if-starts-5.false ∙ (first_miss _ _ _ _ _ _ c.starts-5.ensures c.if-starts-4.false ∙ (first_miss _ _ _ _ _ _ c.starts-4.ensures c.if-starts-3.false ∙ (first_miss _ _ _ _ _ _ c.starts-3.ensures c.if-kind-starts.false ∙ (first_miss _ _ _ _ _ _ c.starts-2.ensures c.if-starts-2.false ∙ (first_miss _ _ _ _ _ _ c.starts.ensures c.if-starts.false ∙ (at_first _ _ _))))))))))))))))) in
    record { is = it.0; moved = it.1 }

pub returns-then-kind-starts-4 : goal.returns-then-kind-starts-4
returns-then-kind-starts-4 c =
    let it = seen_placed _ _ _ c.requires _ (c.at_end-then-kind-starts-4.ensures ∙ first_hit _ _ _ _ _ _ c.starts-17.ensures c.if-kind-starts-4.true ∙ (first_miss _ _ _ _ _ _ c.starts-16.ensures c.if-kind-starts-3.false ∙ (first_miss _ _ _ _ _ _ c.starts-15.ensures c.if-starts-13.false ∙ (first_miss _ _ _ _ _ _ c.starts-14.ensures c.if-starts-12.false ∙ (first_miss _ _ _ _ _ _ c.starts-13.ensures c.if-starts-11.false ∙ (first_miss _ _ _ _ _ _ c.starts-12.ensures c.if-kind-starts-2.false ∙ (first_miss _ _ _ _ _ _ c.starts-11.ensures c.if-starts-10.false ∙ (first_miss _ _ _ _ _ _ c.starts-10.ensures c.if-starts-9.false ∙ (first_miss _ _ _ _ _ _ c.starts-9.ensures c.if-starts-8.false ∙ (first_miss _ _ _ _ _ _ c.starts-8.ensures c.if-starts-7.false ∙ (first_miss _ _ _ _ _ _ c.starts-7.ensures c.if-starts-6.false ∙ (first_miss _ _ _ _ _ _ c.starts-6.ensures c.if-starts-5.false ∙ (first_miss _ _ _ _ _ _ c.starts-5.ensures c.if-starts-4.false ∙ (first_miss _ _ _ _ _ _ c.starts-4.ensures c.if-starts-3.false ∙ (first_miss _ _ _ _ _ _ c.starts-3.ensures c.if-kind-starts.false ∙ (first_miss _ _ _ _ _ _ c.starts-2.ensures c.if-starts-2.false ∙ (first_miss _ _ _ _ _ _ c.starts.ensures c.if-starts.false ∙ (at_first _ _ _)))))))))))))))))) in
    record { is = it.0; moved = it.1 }

pub returns-then-kind-starts-5 : goal.returns-then-kind-starts-5
returns-then-kind-starts-5 c =
    let it = seen_placed _ _ _ c.requires _ (c.at_end-then-kind-starts-5.ensures ∙ first_hit _ _ _ _ _ _ c.starts-18.ensures c.if-kind-starts-5.true ∙ (first_miss _ _ _ _ _ _ c.starts-17.ensures c.if-kind-starts-4.false ∙ (first_miss _ _ _ _ _ _ c.starts-16.ensures c.if-kind-starts-3.false ∙ (first_miss _ _ _ _ _ _ c.starts-15.ensures c.if-starts-13.false ∙ (first_miss _ _ _ _ _ _ c.starts-14.ensures c.if-starts-12.false ∙ (first_miss _ _ _ _ _ _ c.starts-13.ensures c.if-starts-11.false ∙ (first_miss _ _ _ _ _ _ c.starts-12.ensures c.if-kind-starts-2.false ∙ (first_miss _ _ _ _ _ _ c.starts-11.ensures c.if-starts-10.false ∙ (first_miss _ _ _ _ _ _ c.starts-10.ensures c.if-starts-9.false ∙ (first_miss _ _ _ _ _ _ c.starts-9.ensures c.if-starts-8.false ∙ (first_miss _ _ _ _ _ _ c.starts-8.ensures c.if-starts-7.false ∙ (first_miss _ _ _ _ _ _ c.starts-7.ensures c.if-starts-6.false ∙ (first_miss _ _ _ _ _ _ c.starts-6.ensures c.if-starts-5.false ∙ (first_miss _ _ _ _ _ _ c.starts-5.ensures c.if-starts-4.false ∙ (first_miss _ _ _ _ _ _ c.starts-4.ensures c.if-starts-3.false ∙ (first_miss _ _ _ _ _ _ c.starts-3.ensures c.if-kind-starts.false ∙ (first_miss _ _ _ _ _ _ c.starts-2.ensures c.if-starts-2.false ∙ (first_miss _ _ _ _ _ _ c.starts.ensures c.if-starts.false ∙ (at_first _ _ _))))))))))))))))))) in
    record { is = it.0; moved = it.1 }

pub returns : goal.returns
returns c =
    let it = seen_placed _ _ _ c.requires _ (c.at_end-2.ensures ∙ first_none _ _ _ ∙ first_miss _ _ _ _ _ _ c.starts-18.ensures c.if-kind-starts-5.false ∙ (first_miss _ _ _ _ _ _ c.starts-17.ensures c.if-kind-starts-4.false ∙ (first_miss _ _ _ _ _ _ c.starts-16.ensures c.if-kind-starts-3.false ∙ (first_miss _ _ _ _ _ _ c.starts-15.ensures c.if-starts-13.false ∙ (first_miss _ _ _ _ _ _ c.starts-14.ensures c.if-starts-12.false ∙ (first_miss _ _ _ _ _ _ c.starts-13.ensures c.if-starts-11.false ∙ (first_miss _ _ _ _ _ _ c.starts-12.ensures c.if-kind-starts-2.false ∙ (first_miss _ _ _ _ _ _ c.starts-11.ensures c.if-starts-10.false ∙ (first_miss _ _ _ _ _ _ c.starts-10.ensures c.if-starts-9.false ∙ (first_miss _ _ _ _ _ _ c.starts-9.ensures c.if-starts-8.false ∙ (first_miss _ _ _ _ _ _ c.starts-8.ensures c.if-starts-7.false ∙ (first_miss _ _ _ _ _ _ c.starts-7.ensures c.if-starts-6.false ∙ (first_miss _ _ _ _ _ _ c.starts-6.ensures c.if-starts-5.false ∙ (first_miss _ _ _ _ _ _ c.starts-5.ensures c.if-starts-4.false ∙ (first_miss _ _ _ _ _ _ c.starts-4.ensures c.if-starts-3.false ∙ (first_miss _ _ _ _ _ _ c.starts-3.ensures c.if-kind-starts.false ∙ (first_miss _ _ _ _ _ _ c.starts-2.ensures c.if-starts-2.false ∙ (first_miss _ _ _ _ _ _ c.starts.ensures c.if-starts.false ∙ (at_first _ _ _))))))))))))))))))) in
    record { is = it.0; moved = it.1 }
