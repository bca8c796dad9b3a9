-- `usage::is_expected`: what the rows' tests say, one by one and together.
use Rattle.std.proofs.Common.{◌≡◌, ℕ, zero, suc, ◌+◌, ◌<◌, ◌≤◌, Bool, true, false, ◌||◌, ◌&&◌, eqb, List, refl, sym, ap, ◌∙◌, arith, rules, tests}
use Rattle.std.specs.List.{list_any, range_with_len}
use Rattle.std.proofs.lemmas.Iterator.{YieldsList-from_range}
use Rattle.std.proofs.lemmas.Iterator.Search.{any_from_yields_List}
use mathlib.Core.Bool.{false≢true}
use borrow.Author.Tests.{eq-eqb, eqb-true}
use native.Mathlib.Decide.{ℕ_discrete}
use native.Mathlib.Nat.{sub-zero}
use Rattle.tables.specs.Table.{cell, has_name}
use Rattle.tables.specs.Layout.{width, unused, kind_name}
use Rattle.usage.specs.Report.{Says, Expects, Expected}
use Rattle.usage.proofs.Picked.{says_yes}
use Rattle.usage.proofs.is_expected.Goals as goal

-- one of the n numbers from m on passes a test
abbrev Passes : (ℕ → Bool) → ℕ → ℕ → Type 0
Passes p m n = (e : ℕ) × (m ≤ e) × (e < m + n) × (p e ≡ true)

passes : (p : ℕ → Bool) (m n : ℕ) → Says (list_any p (range_with_len m n)) (Passes p m n)
passes p m zero = λ q. absurd (omega (arith, q.1, q.2))
passes p m (suc n) = here (p m) refl (list_any p (range_with_len (m + 1) n)) (passes p (m + 1) n)
  where
    here : (v : Bool) → p m ≡ v → (w : Bool) → Says w (Passes p (m + 1) n) → Says (v || w) (Passes p m (suc n))
    here true k w s = (m, omega arith, omega arith, k)
    here false k true s = (s.0, omega (arith, s.1), omega (arith, s.2), s.3)
    here false k false s =
        λ q. elim (ℕ_discrete q.0 m) [
          | yes e ↦ false≢true (sym k ∙ ap p (sym e) ∙ q.3)
          | no e ↦ s (q.0, omega (arith, q.1), omega (arith, q.2), q.3)
        ]

-- one answer to one question
one : (P : Type 0) (v w : Bool) → Says v P → Says w P → v ≡ w
one P true true s t = refl
one P true false s t = absurd (t s)
one P false true s t = absurd (s t)
one P false false s t = refl

module _ (src t : List ℕ) (kd a b : ℕ) where
  test : ℕ → Bool
  test e = eqb (cell (width unused) t e 0) kd && has_name src (width unused) kind_name t a b e

  says : (e : ℕ) → Says (test e) (Expects src t kd a b e)
  unfolding test
  says e = go _ _ refl refl
    where
      go : (x y : Bool) → eqb (cell (width unused) t e 0) kd ≡ x → has_name src (width unused) kind_name t a b e ≡ y → Says (x && y) (Expects src t kd a b e)
      go true true h k = record { kind = eqb-true _ _ h; same = k }
      go true false h k = λ s. false≢true (sym k ∙ s.same)
      go false y h k = λ s. false≢true (sym h ∙ eq-eqb _ _ s.kind)

  test_is : (e : ℕ) (v : Bool) → Says v (Expects src t kd a b e) → v ≡ test e
  test_is e v s = one _ v (test e) s (says e)

  expected : (n : ℕ) → Says (list_any test (range_with_len 0 n)) (Expected src t n kd a b)
  expected n = go (list_any test (range_with_len 0 n)) (passes test 0 n)
    where
      go : (v : Bool) → Says v (Passes test 0 n) → Says v (Expected src t n kd a b)
      go true s = record { entry = s.0; there = omega (arith, s.2); expects = says_yes _ _ s.3 (says s.0) }
      go false s = λ x. s (x.entry, omega arith, omega (arith, x.there), sym (test_is x.entry true x.expects))

pub returns : goal.returns
returns c =
    let a = c.args in
    let p = test a.src.now a.t6.now a.kind a.a a.b in
    let found = any_from_yields_List p _ _ c.any.result c.any.ensures.ran (YieldsList-from_range 0 a.n a.n refl (sub-zero a.n)) (λ x b q k. (search (rules, tests), test_is _ _ _ _ _ x b (search (rules, tests)))) in
    rw found (expected _ _ _ _ _ a.n)
