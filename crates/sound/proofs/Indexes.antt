-- The test of an index says yes exactly where its size is right and it holds the names. Assumes nothing.
use Prim.Native.Nat.{ℕ, suc, ◌*◌, ◌/◌, ◌≤◌, ◌<◌}
use mathlib.Core.Path.{◌≡◌, refl, sym, ◌∙◌}
use mathlib.Core.List.{List, [], ◌∷◌}
use mathlib.Core.Bool.{Bool, true, false, ◌&&◌, not, false≢true}
use mathlib.Core.Logic.Iff
use mathlib.Core.Logic.{◌↔◌}
use native.Mathlib.Omega.{arith}
use native.Mathlib.Nat.{le-div_iff_mul-le}
use native.Mathlib.Decide.{ℕ_discrete}
use borrow.Author.Tests.{eqb-true, not-true, not-false}
use lib.Dec.{eqb}
use lib.ListN.{length}
use Rattle.index.specs.Index.{Indexed, filled, row_stands, index_test, size_test, Sized}
use Rattle.tables.specs.Below.{below}
use Rattle.index.proofs.Slots.{filled_zero, filled_one}
use Rattle.index.proofs.Powers.{size_iff}
use Rattle.index.proofs.Theorems.{index_iff}
use Rattle.tables.specs.Layout.{tokens, rules, width}
use Rattle.grammar.specs.declared.Counts.{Counts}
use Rattle.grammar.specs.Sound.{Tables, Indexes, SoundIndexes}
use Rattle.sound.specs.Test.{count_at, index_right, indexes_test}
use Rattle.tables.proofs.Tells.{both_iff}

-- one index: its size, then what it holds
module _ (src : List ℕ) (w n : ℕ) (t ix : List ℕ) (p : Bool) (e : p ≡ size_test (length ix) (length t) w) where
  pub wrong_size : not p ≡ true → false ≡ index_right src w n t ix
  unfolding index_right
  wrong_size h = rw (← e, not-true p h)

  pub right_size : not p ≡ false → (q : Bool) → q ≡ index_test src w 0 n t ix → q ≡ index_right src w n t ix
  unfolding index_right
  right_size h q f = rw (← e, not-false p h, f)

-- both
module _ (src : List ℕ) (c : Counts) (t1 t7 i1 i7 : List ℕ) (n : ℕ) (k : n ≡ count_at c tokens) (p : Bool) (e : p ≡ index_right src (width tokens) n t1 i1) where
  pub first_wrong : not p ≡ true → false ≡ indexes_test src c t1 t7 i1 i7
  unfolding indexes_test
  first_wrong h = rw (← k, ← e, not-true p h)

  pub first_right : not p ≡ false → (m : ℕ) → m ≡ count_at c rules → (q : Bool) → q ≡ index_right src (width rules) m t7 i7 → q ≡ indexes_test src c t1 t7 i1 i7
  unfolding indexes_test
  first_right h m l q f = rw (← k, ← e, not-false p h, ← l, f)

-- a right size has a slot for each row that fits the table and 32 bits,
size_rows : (m n w l : ℕ) → 0 < w → n * w ≤ l → n ≤ 4294967295 → Sized m l w → n ≤ m
size_rows m n w l p f b s =
    let a : n ≤ l / w = (le-div_iff_mul-le p).1 f in
    let r = s.roomy in
    omega arith

-- so the test is exact where rows do.
pub right_iff : (src : List ℕ) (w n : ℕ) (t ix : List ℕ) → 0 < w → n * w ≤ length t → n ≤ 4294967295 → (index_right src w n t ix ≡ true) ↔ (Sized (length ix) (length t) w × Indexed src w 0 n t ix)
unfolding index_right
right_iff src w n t ix p f b = (go (size_test (length ix) (length t) w) refl, back)
  where
    fit : Sized (length ix) (length t) w → n ≤ length ix
    fit s = size_rows (length ix) n w (length t) p f b s

    go : (q : Bool) → size_test (length ix) (length t) w ≡ q → (q && index_test src w 0 n t ix) ≡ true → Sized (length ix) (length t) w × Indexed src w 0 n t ix
    go true e h = let s = (size_iff (length ix) (length t) w).0 e in (s, (index_iff src w 0 n t ix (fit s)).0 h)
    go false e h = absurd (false≢true h)

    back : Sized (length ix) (length t) w × Indexed src w 0 n t ix → (size_test (length ix) (length t) w && index_test src w 0 n t ix) ≡ true
    back x = rw ((size_iff (length ix) (length t) w).1 x.0) ((index_iff src w 0 n t ix (fit x.0)).1 x.1)

-- Both indexes are sound exactly where the test says so, if the counts fit their tables and 32 bits.
pub indexes_iff : (src : List ℕ) (c : Counts) (T : Tables) (X : Indexes) → count_at c tokens * width tokens ≤ length T.t1 → count_at c rules * width rules ≤ length T.t7 → count_at c tokens ≤ 4294967295 → count_at c rules ≤ 4294967295
    → (indexes_test src c T.t1 T.t7 X.tokens X.rules ≡ true) ↔ SoundIndexes src c T X
unfolding indexes_test
indexes_iff src c T X f g a b =
    Iff.trans
    (both_iff (right_iff src (width tokens) (count_at c tokens) T.t1 X.tokens (omega arith) f a) (right_iff src (width rules) (count_at c rules) T.t7 X.rules (omega arith) g b))
    (λ x. record { token_size = x.0.0; rule_size = x.1.0; tokens = x.0.1; rules = x.1.1 }, λ s. ((s.token_size, s.tokens), (s.rule_size, s.rules)))

-- An index that passes the test holds the rows, whatever else is wrong: no more slots are taken than there are.
filled_length : (ix : List ℕ) → filled ix ≤ length ix
unfolding filled
filled_length [] = omega arith
filled_length (v ∷ vs) = go (ℕ_discrete v 0) (filled_length vs)
  where
    go : Dec (v ≡ 0) → filled vs ≤ length vs → filled (v ∷ vs) ≤ suc (length vs)
    go (yes e) h = rw (filled_zero v vs e) (omega arith)
    go (no d) h = rw (filled_one v vs d) (omega arith)

test_rows : (src : List ℕ) (w n : ℕ) (t ix : List ℕ) → index_test src w 0 n t ix ≡ true → n ≤ length ix
unfolding index_test
test_rows src w n t ix = go (eqb (filled ix) n) refl
  where
    go : (b : Bool) → eqb (filled ix) n ≡ b → (b && below n (row_stands src w 0 t ix)) ≡ true → n ≤ length ix
    go true e h = let f = eqb-true (filled ix) n e in let l = filled_length ix in omega arith
    go false e h = absurd (false≢true h)

right_told : (src : List ℕ) (w n : ℕ) (t ix : List ℕ) → index_right src w n t ix ≡ true → Indexed src w 0 n t ix
unfolding index_right
right_told src w n t ix = go (size_test (length ix) (length t) w)
  where
    go : (b : Bool) → (b && index_test src w 0 n t ix) ≡ true → Indexed src w 0 n t ix
    go true h = (index_iff src w 0 n t ix (test_rows src w n t ix h)).0 h
    go false h = absurd (false≢true h)

pub indexes_told : (src : List ℕ) (c : Counts) (t1 t7 i1 i7 : List ℕ) (p : Bool) → p ≡ indexes_test src c t1 t7 i1 i7 → not p ≡ false → Indexed src (width tokens) 0 (count_at c tokens) t1 i1 × Indexed src (width rules) 0 (count_at c rules) t7 i7
unfolding indexes_test
indexes_told src c t1 t7 i1 i7 p e h = go (index_right src (width tokens) (count_at c tokens) t1 i1) refl (sym e ∙ not-false p h)
  where
    go : (b : Bool) → index_right src (width tokens) (count_at c tokens) t1 i1 ≡ b → (b && index_right src (width rules) (count_at c rules) t7 i7) ≡ true → Indexed src (width tokens) 0 (count_at c tokens) t1 i1 × Indexed src (width rules) 0 (count_at c rules) t7 i7
    go true f x = (right_told src (width tokens) (count_at c tokens) t1 i1 f, right_told src (width rules) (count_at c rules) t7 i7 x)
    go false f x = absurd (false≢true x)
