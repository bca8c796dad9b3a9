-- `links::next_of_rule`.
use Rattle.std.proofs.Common.{rules, tests, refl, ◌∙◌}
use Rattle.std.proofs.lemmas.Iterator.{YieldsList-from_range}
use Rattle.std.proofs.lemmas.Iterator.Search.{find_from_yields_List}
use Rattle.tables.proofs.Laws.{find_first}
use Rattle.links.specs.Links.{is_of_rule, next_of_rule}
use Rattle.links.proofs.Laws.{found_or}
use Rattle.links.proofs.next_of_rule.Goals as goal

pub returns : goal.returns
unfolding is_of_rule next_of_rule
returns c =
    let a = c.args in
    let found = find_from_yields_List (is_of_rule a.t8.now a.k) _ _ c.find.result c.find.ensures.ran (YieldsList-from_range a.from a.n _ refl refl) (λ x b q k. search (rules, tests)) in
    c.unwrap_or.ensures ∙ found_or _ _ _ (found ∙ find_first _ _ _)
