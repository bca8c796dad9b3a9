-- `catalogue::zero_cells`.
use Rattle.std.proofs.Common.{rules, tests, ◌≡◌, ◌∙◌, ◌+◌, ◌-◌, eqb, arith}
use Rattle.std.proofs.lemmas.Iterator.{YieldsList-from_slice}
use Rattle.std.proofs.lemmas.Iterator.Search.{all_from_yields_List}
use Rattle.catalogue.proofs.Laws.{zero_all}
use Rattle.catalogue.proofs.zero_cells.Goals as goal

pub returns : goal.returns
returns c =
    let a = c.args in
    let found = all_from_yields_List (λ x. eqb x 0) _ _ c.all.result c.all.ensures.ran (YieldsList-from_slice _ c.iter.ensures.rest) (λ x b q k. search (rules, tests)) in
    let n : a.k + a.n - a.k ≡ a.n = omega arith in
    (rw n at found) ∙ zero_all a.m.now a.k a.n (omega arith)
