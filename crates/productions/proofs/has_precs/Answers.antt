-- `productions::has_precs`.
use Rattle.std.proofs.Common.{ℕ, zero, suc, ◌+◌, ◌≡◌, refl, ap, ◌∙◌, Bool, true, false, not, ◌||◌, ◌&&◌, eqb, [], ◌∷◌, ◌++◌, add-zero, zero-add, rules, tests, arith}
use Rattle.std.specs.List.{list_any, range_with_len}
use Rattle.std.proofs.lemmas.List.Folds.{list_any-append}
use Rattle.std.proofs.lemmas.Iterator.{YieldsList-from_range}
use Rattle.std.proofs.lemmas.Iterator.Search.{any_from_yields_List}
use Rattle.tables.specs.Layout.{prec}
use Rattle.tables.specs.Below.{below}
use Rattle.productions.specs.Cells.{cell_of}
use Rattle.productions.proofs.has_precs.Goals as goal

range_more : (a n : ℕ) → range_with_len a (suc n) ≡ range_with_len a n ++ (a + n) ∷ []
range_more a zero = rw (add-zero a)
range_more a (suc n) =
    let e : a + 1 + n ≡ a + suc n = omega arith in
    ap (λ xs. a ∷ xs) (range_more (a + 1) n ∙ rw e)

-- one of the first n numbers passes a test, if not all of them fail
any_below : (p : ℕ → Bool) (n : ℕ) → list_any p (range_with_len 0 n) ≡ not (below n (λ r. not (p r)))
unfolding below
any_below p zero = refl
any_below p (suc n) =
    ap (list_any p) (range_more 0 n)
    ∙ list_any-append p (range_with_len 0 n) ((0 + n) ∷ [])
    ∙ rw (zero-add n, any_below p n) (both (below n (λ r. not (p r))) (p n))
  where
    both : (a b : Bool) → (not a || (b || false)) ≡ not (a && not b)
    both true true = refl
    both true false = refl
    both false b = refl

pub returns : goal.returns
returns c =
    let a = c.args in
    let found = any_from_yields_List (λ r. eqb (cell_of a.t.now r prec) 1) _ _ c.any.result c.any.ensures.ran (YieldsList-from_range 0 a.n a.n refl (omega arith)) (λ x b q k. search (rules, tests)) in
    found ∙ any_below _ a.n
