-- `index::hash_part`.
use Rattle.std.proofs.Common.{ℕ, ◌≡◌, List, [], ◌∷◌, refl, ap, ◌∙◌, rules, tests}
use Rattle.std.specs.List.{fold}
use Rattle.std.proofs.lemmas.Iterator.{YieldsList-from_slice}
use Rattle.std.proofs.lemmas.Iterator.Consumers.{fold_from_yields_List}
use Rattle.tables.proofs.Laws.{part_slice}
use Rattle.index.specs.Hash.{mixed, hash_from}
use Rattle.index.proofs.Laws.{hash_none, hash_start}
use Rattle.index.proofs.hash_part.Goals as goal

folded : (h : ℕ) (bs : List ℕ) → fold mixed h bs ≡ hash_from h bs
unfolding hash_from
folded h [] = refl
folded h (b ∷ bs) = folded (mixed h b) bs

pub returns-then-not-is_place : goal.returns-then-not-is_place
returns-then-not-is_place c = search (hash_none, rules)

pub returns : goal.returns
returns c =
    let a = c.args in
    let x = hash_start a.src.now a.a a.b _ c.is_place.ensures c.if-not-is_place.false-raw in
    let e = fold_from_yields_List _ mixed _ c.fold.result c.fold.ensures.ran (YieldsList-from_slice _ c.iter.ensures.rest) (λ h b r q k. search (rules, tests)) in
    e ∙ folded _ _ ∙ ap (hash_from 5381) (part_slice a.src.now a.a a.b x.0) ∙ x.2
