-- `sound::rows_sound`.
use Rattle.std.proofs.Common.{rules, tests, refl, ◌∙◌, arith}
use Rattle.std.proofs.lemmas.Iterator.{YieldsList-from_range}
use Rattle.std.proofs.lemmas.Iterator.Search.{all_from_yields_List}
use Rattle.sound.specs.Test.{row_test}
use Rattle.sound.proofs.Laws.{all_below}
use Rattle.sound.proofs.rows_sound.Goals as goal

pub returns : goal.returns
returns c =
    let a = c.args in
    let found = all_from_yields_List (row_test a.src.now a.rules a.k a.t.now) _ _ c.all.result c.all.ensures.ran (YieldsList-from_range 0 a.n a.n refl (omega arith)) (λ x b q k. search (rules, tests)) in
    found ∙ all_below _ a.n
