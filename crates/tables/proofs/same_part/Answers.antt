-- `tables::same_part`.
use mathlib.Core.Path.{◌∙◌}
use borrow.Author.Rules.{rules}
use Rattle.tables.proofs.Laws.{part_first, part_second, part_both, part_same}
use Rattle.tables.proofs.same_part.Goals as goal

pub returns-then-not-is_place : goal.returns-then-not-is_place
returns-then-not-is_place c = search (part_first, rules)

pub returns-then-not-is_place-2 : goal.returns-then-not-is_place-2
returns-then-not-is_place-2 c = search (part_second, rules)

pub returns : goal.returns
returns c =
    let x = part_both _ _ _ _ _ _ c.is_place.ensures c.if-not-is_place.false-raw _ c.is_place-2.ensures c.if-not-is_place-2.false-raw in
    c.eq.ensures ∙ part_same _ _ _ _ _ x.0 x.1 ∙ x.4
