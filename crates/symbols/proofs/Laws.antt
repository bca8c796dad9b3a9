-- Symbols' rows filled in one by one, and a row told by its name's bytes. Assumes nothing.
use Rattle.std.specs.Prelude.{Option, Some, None}
use Prim.Native.Nat.{ℕ, zero, suc, ◌+◌, ◌*◌, ◌≤◌, ◌<◌}
use mathlib.Core.Path.{◌≡◌, refl, sym, ap, ◌∙◌}
use mathlib.Core.List.{List}
use mathlib.Core.Bool.{Bool, true, false, false≢true}
use native.Mathlib.Omega.{arith}
use native.Mathlib.Numerals.{add-one}
use native.Mathlib.Decide.{ℕ_discrete}
use borrow.Author.Tests.{eq-eqb, ne_eqb}
use lib.ListN.{length, get_or, drop, length-set}
use lib.Seq.{get_or-set_same, get_or-set_other, drop-set-lt}
use lib.Dec.{eqb}
use Rattle.tables.specs.Layout.{tokens, rules, symbols, known_row, no_row, width}
use Rattle.tables.specs.Table.{cell, set_cell, has_name, find_name}
use Rattle.tables.specs.Rows.{row_at}
use Rattle.tables.proofs.Rows.{row_cell}
use Rattle.tables.proofs.Cases.{find_cases, same_part_trans, same_part_sym}
use Rattle.scan.proofs.Bytes.{le_or_lt}
use Rattle.index.specs.Index.{unfound, fresh_name}
use mathlib.Core.Logic.{⊎_elim}
use Rattle.symbols.specs.Symbols.{row_number, Lexicon, named_row, row_for, filled_rows, Knows, knows_test, Single}

-- a symbol's row depends on its kind and place alone
pub row_same : (g : Lexicon) (t u : List ℕ) (s : ℕ) → ((k : ℕ) → k < known_row → cell (width symbols) u s k ≡ cell (width symbols) t s k) → row_for g u s ≡ row_for g t s
unfolding row_for
row_same g t u s e = rw (e 0 (omega arith), e 1 (omega arith), e 2 (omega arith))

module _ (g : Lexicon) (t : List ℕ) where
  -- kinds and places stay,
  pub fill_else : (n s k : ℕ) → k < known_row → cell (width symbols) (filled_rows g t n) s k ≡ cell (width symbols) t s k
  unfolding filled_rows
  fill_else zero s k h = refl
  fill_else (suc n) s k h = get_or-set_other (filled_rows g t n) (n * width symbols + known_row) (s * width symbols + k) (row_for g t n) 0 (λ e. omega arith) ∙ fill_else n s k h

  pub fill_cell : (n s k : ℕ) → k < known_row → get_or (row_at (width symbols) (filled_rows g t n) s) k 0 ≡ get_or (row_at (width symbols) t s) k 0
  fill_cell n s k h = row_cell (width symbols) (filled_rows g t n) s k (omega arith) ∙ fill_else n s k h ∙ sym (row_cell (width symbols) t s k (omega arith))

  -- the length and the cells past the rows too,
  pub fill_length : (n : ℕ) → length (filled_rows g t n) ≡ length t
  unfolding filled_rows
  fill_length zero = refl
  fill_length (suc n) = length-set (filled_rows g t n) (n * width symbols + known_row) (row_for g t n) ∙ fill_length n

  pub fill_past : (n m : ℕ) → n ≤ m → drop (m * width symbols) (filled_rows g t n) ≡ drop (m * width symbols) t
  unfolding filled_rows
  fill_past zero m h = refl
  fill_past (suc n) m h = drop-set-lt (m * width symbols) (filled_rows g t n) (n * width symbols + known_row) (row_for g t n) (omega arith) ∙ fill_past n m (omega arith)

  -- and each row is filled in.
  pub fill_row : (n s : ℕ) → n * width symbols ≤ length t → s < n → cell (width symbols) (filled_rows g t n) s known_row ≡ row_for g t s
  unfolding filled_rows
  fill_row zero s l h = absurd (omega arith)
  fill_row (suc n) s l h =
      elim (ℕ_discrete s n) [
        | yes e ↦ rw e (get_or-set_same (filled_rows g t n) (n * width symbols + known_row) (row_for g t n) 0 (rw (fill_length n) (omega arith)))
        | no e ↦ get_or-set_other (filled_rows g t n) (n * width symbols + known_row) (s * width symbols + known_row) (row_for g t n) 0 (λ x. omega arith) ∙ fill_row n s (omega arith) (omega arith)
      ]

  pub fill_knows : (n : ℕ) → n * width symbols ≤ length t → Knows g n (filled_rows g t n)
  fill_knows n l = record { row = λ s h. fill_row n s l h ∙ sym (row_same g t (filled_rows g t n) s (λ k i. fill_else n s k i)) }

  -- one symbol more, as the loop fills it
  pub fill_on : (s r : ℕ) (u v : List ℕ) → u ≡ filled_rows g t s → r ≡ row_for g u s → v ≡ set_cell (width symbols) u s known_row r → v ≡ filled_rows g t (s + 1)
  unfolding filled_rows
  fill_on s r u v e f h =
      let k : row_for g (filled_rows g t s) s ≡ row_for g t s = row_same g t (filled_rows g t s) s (λ k i. fill_else s s k i) in
      rw (add-one s) (h ∙ rw (f, e, k))

  pub fill_start : t ≡ filled_rows g t 0
  unfolding filled_rows
  fill_start = refl

  pub fill_end : (s n : ℕ) (u : List ℕ) → u ≡ filled_rows g t s → s ≤ n → n ≤ s → u ≡ filled_rows g t n
  fill_end s n u e h k = let q : s ≡ n = omega arith in rw (← q) e

-- a row is told by the bytes of its name
module _ (src : List ℕ) (w n : ℕ) (t : List ℕ) (one : Single src w n t) (small : n ≤ no_row) (v a b : ℕ) where
  pub known_inside : (q : Bool) → v < n → has_name src w 0 t a b v ≡ q → q ≡ eqb v (row_number (find_name src w 0 n t a b))
  known_inside true l e =
      find_cases (λ (o : Option ℕ). true ≡ eqb v (row_number o)) src w 0 n t a b (λ r h u before. sym (eq-eqb v r (one a b v r l h e u)))
      (λ none. absurd (false≢true (sym (none v l) ∙ e)))
  known_inside false l e =
      find_cases (λ (o : Option ℕ). false ≡ eqb v (row_number o)) src w 0 n t a b
      (λ r h u before. sym (ne_eqb v r (λ x. false≢true (sym e ∙ rw x u))))
      (λ none. sym (ne_eqb v no_row (λ x. omega arith)))

  pub known_past : n ≤ v → (v ≡ no_row → ⊥) → false ≡ eqb v (row_number (find_name src w 0 n t a b))
  known_past l d =
      find_cases (λ (o : Option ℕ). false ≡ eqb v (row_number o)) src w 0 n t a b (λ r h u before. sym (ne_eqb v r (λ x. omega arith)))
      (λ none. sym (ne_eqb v no_row d))

  module _ (l : n ≤ v) (f : Option ℕ) (e : f ≡ find_name src w 0 n t a b) where
    pub known_none : v ≡ no_row → f ≡ None → true ≡ eqb v (row_number (find_name src w 0 n t a b))
    known_none h g = rw (← e, g) (sym (eq-eqb v no_row h))

    pub known_some : (r : ℕ) → f ≡ Some r → false ≡ eqb v (row_number (find_name src w 0 n t a b))
    known_some r g =
        find_cases (λ (o : Option ℕ). f ≡ o → false ≡ eqb v (row_number o)) src w 0 n t a b (λ q h u before x. sym (ne_eqb v q (λ y. omega arith)))
        (λ none x. let z : ◌≡◌ {A = ℕ} 0 1 = cc in absurd (omega arith)) e

-- which table a name's row is in
module _ (g : Lexicon) (kind a b r : ℕ) where
  pub named_rule : kind ≡ 1 → r ≡ row_number (find_name g.src (width rules) 0 g.rule_count g.rules a b) → r ≡ named_row g kind a b
  unfolding named_row
  named_rule h e = rw (eq-eqb kind 1 h, named_row) e

  pub named_token : (kind ≡ 1 → ⊥) → r ≡ row_number (find_name g.src (width tokens) 0 g.token_count g.tokens a b) → r ≡ named_row g kind a b
  unfolding named_row
  named_token h e = rw (ne_eqb kind 1 h, named_row) e

pub symbol_is : (g : Lexicon) (t : List ℕ) (s kind a b r : ℕ) → kind ≡ cell (width symbols) t s 0 → a ≡ cell (width symbols) t s 1 → b ≡ cell (width symbols) t s 2 → r ≡ named_row g kind a b → r ≡ row_for g t s
unfolding row_for
symbol_is g t s kind a b r x y z e = rw (← x, ← y, ← z) e

module _ (g : Lexicon) (t : List ℕ) (s kind a b v : ℕ) (x : kind ≡ cell (width symbols) t s 0) (y : a ≡ cell (width symbols) t s 1) (z : b ≡ cell (width symbols) t s 2) (u : v ≡ cell (width symbols) t s known_row) (q : Bool) where
  pub knows_rule : kind ≡ 1 → q ≡ eqb v (row_number (find_name g.src (width rules) 0 g.rule_count g.rules a b)) → q ≡ knows_test g t s
  unfolding knows_test
  knows_rule h e = e ∙ rw (← u) (ap (eqb v) (symbol_is g t s kind a b _ x y z (named_rule g kind a b _ h refl)))

  pub knows_token : (kind ≡ 1 → ⊥) → q ≡ eqb v (row_number (find_name g.src (width tokens) 0 g.token_count g.tokens a b)) → q ≡ knows_test g t s
  unfolding knows_test
  knows_token h e = e ∙ rw (← u) (ap (eqb v) (symbol_is g t s kind a b _ x y z (named_token g kind a b _ h refl)))

-- where no row has the name of an earlier one, each name is that of one row
pub fresh_single : (src : List ℕ) (w n : ℕ) (t : List ℕ) → ((r : ℕ) → r < n → fresh_name src w 0 t r ≡ true) → Single src w n t
unfolding fresh_name has_name
fresh_single src w n t f a b q r h l x y =
    ⊎_elim (λ i. ⊎_elim (λ j. omega arith) (λ j. absurd (later r q l j x y)) (le_or_lt r q))
    (λ i. absurd (later q r h i y x)) (le_or_lt q r)
  where
    later : (i j : ℕ) → i < n → j < i → has_name src w 0 t a b j ≡ true → has_name src w 0 t a b i ≡ true → ⊥
    later i j l m u v =
        let s : has_name src w 0 t (cell w t i 0) (cell w t i 1) j ≡ true = same_part_trans src _ _ a b _ _ u (same_part_sym src a b (cell w t i 0) (cell w t i 1) ∙ v) in
        find_cases (λ (o : Option ℕ). unfound o ≡ true → ⊥) src w 0 i t (cell w t i 0) (cell w t i 1) (λ p z k before e. false≢true e) (λ none e. false≢true (sym (none j m) ∙ s)) (f i l)
