-- `finder::number_of`.
use Rattle.std.proofs.Common.{ℕ, ◌≡◌, List, [], ◌∷◌, refl, ap, ◌∙◌, rules, tests}
use Rattle.std.specs.List.{fold}
use Rattle.std.proofs.lemmas.Iterator.{YieldsList-from_slice}
use Rattle.std.proofs.lemmas.Iterator.Consumers.{fold_from_yields_List}
use Rattle.tables.proofs.Laws.{part_slice}
use Rattle.finder.specs.Finder.{stirred, stir_from}
use Rattle.finder.proofs.Laws.{number_none, number_start}
use Rattle.finder.proofs.number_of.Goals as goal

folded : (h : ℕ) (bs : List ℕ) → fold stirred h bs ≡ stir_from h bs
unfolding stir_from
folded h [] = refl
folded h (b ∷ bs) = folded (stirred h b) bs

pub returns-then-not-is_place : goal.returns-then-not-is_place
returns-then-not-is_place c = search (number_none, rules)

pub returns : goal.returns
returns c =
    let a = c.args in
    let x = number_start a.src.now a.a a.b _ c.is_place.ensures c.if-not-is_place.false-raw in
    let e = fold_from_yields_List _ stirred _ c.fold.result c.fold.ensures.ran (YieldsList-from_slice _ c.iter.ensures.rest) (λ h b r q k. search (rules, tests)) in
    e ∙ folded _ _ ∙ ap (stir_from 2166136261) (part_slice a.src.now a.a a.b x.0) ∙ x.2
