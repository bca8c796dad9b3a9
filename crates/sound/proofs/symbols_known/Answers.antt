-- `sound::symbols_known`.
use Rattle.std.proofs.Common.{rules, tests, refl, ◌∙◌, arith}
use Rattle.std.proofs.lemmas.Iterator.{YieldsList-from_range}
use Rattle.std.proofs.lemmas.Iterator.Search.{all_from_yields_List}
use Rattle.symbols.specs.Symbols.{lexicon, knows_test}
use Rattle.sound.proofs.Laws.{all_below}
use Rattle.sound.proofs.Known.{known_counts}
use Rattle.sound.proofs.symbols_known.Goals as goal

pub returns : goal.returns
returns c =
    let a = c.args in
    let n = c.rows_of-n.result in
    let m = c.rows_of-m.result in
    let count = c.rows_of-count.result in
    let found = all_from_yields_List (knows_test (lexicon a.src.now a.t1.now n a.t7.now m) a.t9.now) _ _ c.all.result c.all.ensures.ran (YieldsList-from_range 0 count count refl (omega arith)) (λ x b q k. search (rules, tests)) in
    known_counts _ _ _ _ _ _ _ _ _ _ c.rows_of-n.ensures c.rows_of-m.ensures c.rows_of-count.ensures _ (found ∙ all_below _ count)
