-- What the functions' proofs cite: numbers past the tenth table, cells and rows tested one by one, and what is left of a definition behind each test.
-- Assumes nothing.
use Prim.Native.Nat.{ℕ, zero, suc, ◌+◌, ◌*◌, ◌-◌, ◌≤◌, ◌<◌}
use mathlib.Core.Path.{◌≡◌, refl, sym, ap, ◌∙◌}
use mathlib.Core.List.{List, [], ◌∷◌, ◌++◌}
use mathlib.Core.Bool.{Bool, true, false, ◌&&◌, ◌||◌, not, and-false, and-true}
use native.Mathlib.Omega.{arith}
use native.Mathlib.Numerals.{add-one}
use native.Mathlib.Nat.{add-zero, zero-add}
use Rattle.std.specs.List.{list_all, range_with_len}
use Rattle.std.proofs.lemmas.List.Folds.{list_all-append}
use borrow.Author.Tests.{ne_eqb, le-leb, lt-leb, not-true, not-false}
use lib.Dec.{eqb, leb}
use lib.ListN.{length, get_or, drop_of_length-le}
use Rattle.scan.proofs.Bytes.{drop_at, drop_key}
use Rattle.tables.specs.Layout.{tokens, rules, productions, symbols, symbols_from, symbols_to, tags, token_numbers, bodies, width}
use Rattle.tables.specs.Below.{below}
use Rattle.tables.specs.Table.{cell}
use Rattle.grammar.specs.Sound.{Tables, Indexes, lexicon_of, tab}
use Rattle.grammar.specs.declared.Counts.{Counts}
use Rattle.grammar.specs.declared.PosixCounts.{PosixCounts}
use Rattle.grammar.specs.declared.Singles.{Singles}
use Rattle.sound.specs.Test.{indexes_test, zeros, zeros_from, row_test, before, range_test, ranges_test, names_test, table_test, count_at, known_test, tables_test, singles_test, posix_test, sound_test}
use Rattle.symbols.specs.Symbols.{knows_test}

-- a table number past the tenth
past_five : (k n : ℕ) → n ≤ k → (k ≡ n → ⊥) → (k ≡ n + 1 → ⊥) → (k ≡ n + 2 → ⊥) → (k ≡ n + 3 → ⊥) → (k ≡ n + 4 → ⊥) → n + 5 ≤ k
past_five k n l a b c d e = omega arith

module _ (k : ℕ) where
  pub past_ten : (k ≡ 0 → ⊥) → (k ≡ 1 → ⊥) → (k ≡ 2 → ⊥) → (k ≡ 3 → ⊥) → (k ≡ 4 → ⊥) → (k ≡ 5 → ⊥) → (k ≡ 6 → ⊥) → (k ≡ 7 → ⊥) → (k ≡ 8 → ⊥) → (k ≡ 9 → ⊥) → 10 ≤ k
  past_ten = let z : 0 ≤ k = omega arith in λ a b c d e f g h i j. past_five k 5 (past_five k 0 z a b c d e) f g h i j

  pub past_thirteen : 10 ≤ k → (k ≡ 10 → ⊥) → (k ≡ 11 → ⊥) → (k ≡ 12 → ⊥) → 13 ≤ k
  past_thirteen h a b c = omega arith

  module _ (h : 13 ≤ k) where
    beyond : k ≡ suc (suc (suc (suc (suc (suc (suc (suc (suc (suc (suc (suc (suc (k - 13)))))))))))))
    beyond = omega arith

    pub row_past : (src t : List ℕ) (n r : ℕ) → true ≡ row_test src n k t r
    row_past src t n r = rw beyond

    pub width_past : 1 ≡ width k
    width_past = rw beyond

-- a test of all numbers below n
range_more : (a n : ℕ) → range_with_len a (suc n) ≡ range_with_len a n ++ (a + n) ∷ []
range_more a zero = rw (add-zero a)
range_more a (suc n) =
    let e : a + 1 + n ≡ a + suc n = omega arith in
    ap (λ xs. a ∷ xs) (range_more (a + 1) n ∙ rw e)

pub all_below : (p : ℕ → Bool) (n : ℕ) → list_all p (range_with_len 0 n) ≡ below n p
unfolding below
all_below p zero = refl
all_below p (suc n) =
    ap (list_all p) (range_more 0 n)
    ∙ list_all-append p (range_with_len 0 n) ((0 + n) ∷ [])
    ∙ rw (zero-add n, all_below p n, and-true)

-- zeros, cell by cell
module _ (t : List ℕ) (i : ℕ) (r : Bool) (inv : zeros_from t i ≡ r) where
  pub zeros_on : i < length t → get_or t i 0 ≡ 0 → zeros_from t (i + 1) ≡ r
  unfolding zeros_from zeros
  zeros_on h e = rw (drop_key t i 0 h e) at inv

  pub zeros_not : i < length t → (get_or t i 0 ≡ 0 → ⊥) → false ≡ r
  unfolding zeros_from zeros
  zeros_not h e = rw (drop_at t i h, ne_eqb _ _ e, zeros) at inv

  pub zeros_end : length t ≤ i → true ≡ r
  unfolding zeros_from zeros
  zeros_end h = rw (drop_of_length-le t h) at inv

-- the range before a row
module _ (t : List ℕ) (r b : ℕ) where
  pub before_first : r ≡ 0 → b ≡ 0 → b ≡ before t r
  unfolding before
  before_first e h = rw e h

  pub before_later : (r ≡ 0 → ⊥) → b ≡ cell (width productions) t (r - 1) symbols_to → b ≡ before t r
  unfolding before
  before_later d h =
      let e : r ≡ suc (r - 1) = omega arith in
      rw e h

  pub before_next : b ≡ cell (width productions) t r symbols_to → b ≡ before t (r + 1)
  unfolding before
  before_next h = rw (add-one r) h

  pub range_is : (from to : ℕ) → from ≡ cell (width productions) t r symbols_from → to ≡ cell (width productions) t r symbols_to → b ≡ before t r → (eqb from b && leb from to) ≡ range_test t r
  unfolding range_test
  range_is from to f g h = rw (f, g, h)

-- the ranges of all rows, and the last one's end
module _ (t : List ℕ) (n m : ℕ) where
  pub ranges_not : false ≡ below n (range_test t) → false ≡ ranges_test t n m
  unfolding ranges_test
  ranges_not h = rw (← h)

  pub ranges_all : (r b : ℕ) → below r (range_test t) ≡ true → b ≡ before t r → r ≤ n → n ≤ r → eqb b m ≡ ranges_test t n m
  unfolding ranges_test
  ranges_all r b h k l o =
      let e : n ≡ r = omega arith in
      rw (e, h, ← k)

-- a table: whether its rows fit, whether the cells past them are zero, its rows, its names
module _ (src t : List ℕ) (m k n w : ℕ) (e : w ≡ width k) (small : n ≤ 4294967295) where
  pub table_short : length t < n * w → false ≡ table_test src m k n t
  unfolding table_test
  table_short h = rw (le-leb _ _ small, ← e, lt-leb _ _ h)

  module _ (l : n * w ≤ length t) (z : Bool) (f : z ≡ zeros_from t (n * w)) where
    pub table_dirty : not z ≡ true → false ≡ table_test src m k n t
    unfolding table_test
    table_dirty h = rw (le-leb _ _ small, ← e, le-leb _ _ l, ← f, not-true z h)

    module _ (g : not z ≡ false) (q : Bool) (o : q ≡ below n (row_test src m k t)) where
      pub table_row : not q ≡ true → false ≡ table_test src m k n t
      unfolding table_test
      table_row h = rw (le-leb _ _ small, ← e, le-leb _ _ l, ← f, not-false z g, ← o, not-true q h)

      pub table_names : not q ≡ false → (b : Bool) → (eqb k tokens || eqb k rules) ≡ b → names_test b src w n t ≡ table_test src m k n t
      unfolding table_test
      table_names h b j = rw (le-leb _ _ small, ← e, le-leb _ _ l, ← f, not-false z g, ← o, not-false q h, j)

-- tables 15 to 17, one behind the other
module _ (src : List ℕ) (p : PosixCounts) (t15 t16 t17 : List ℕ) (a : Bool) (e : a ≡ table_test src 0 tags (get_or p.n 0 0) t15) where
  pub posix_first : not a ≡ true → false ≡ posix_test src p t15 t16 t17
  unfolding posix_test
  posix_first h = rw (← e, not-true a h)

  module _ (h : not a ≡ false) (b : Bool) (f : b ≡ table_test src 0 token_numbers (get_or p.n 1 0) t16) where
    pub posix_second : not b ≡ true → false ≡ posix_test src p t15 t16 t17
    unfolding posix_test
    posix_second k = rw (← e, not-false a h, ← f, not-true b k)

    pub posix_third : not b ≡ false → (q : Bool) → q ≡ table_test src 0 bodies (get_or p.n 2 0) t17 → q ≡ posix_test src p t15 t16 t17
    unfolding posix_test
    posix_third k q g = rw (← e, not-false a h, ← f, not-false b k, ← g)

-- the tables in their order: one, and those from it on, n behind it
module _ (src : List ℕ) (c : Counts) (T : Tables) where
  unfoldable pub one : ℕ → Bool
  one k = table_test src (count_at c rules) k (count_at c k) (tab T k)

  unfoldable pub from : ℕ → ℕ → Bool
  from k zero = one k
  from k (suc n) = one k && from (suc k) n

  pub from_start : from 0 9 ≡ tables_test src c T
  unfolding one from tables_test
  from_start = refl

  pub table_is : (k m n : ℕ) (q : Bool) → q ≡ table_test src m k n (tab T k) → m ≡ count_at c rules → n ≡ count_at c k → q ≡ one k
  unfolding one
  table_is k m n q h e f = rw (← e, ← f) h

  module _ (k n : ℕ) (q : Bool) (e : q ≡ one k) where
    pub first_no : not q ≡ true → false ≡ from k (suc n)
    unfolding from
    first_no h = ap (λ (b : Bool). b && from (suc k) n) (sym (not-true q h) ∙ e)

    pub first_yes : not q ≡ false → from (suc k) n ≡ from k (suc n)
    unfolding from
    first_yes h = ap (λ (b : Bool). b && from (suc k) n) (sym (not-false q h) ∙ e)

  pub from_last : (k : ℕ) → one k ≡ from k 0
  unfolding from
  from_last k = refl

  -- all of it
  module _ (g : Singles) (X : Indexes) where
    pub sound_long : 65536 < length src → false ≡ sound_test src c g T X
    unfolding sound_test
    sound_long h = rw (lt-leb _ _ h)

    module _ (s : length src ≤ 65536) (p : Bool) (d : p ≡ indexes_test src c T.t1 T.t7 X.tokens X.rules) where
      pub sound_index : not p ≡ true → false ≡ sound_test src c g T X
      unfolding sound_test
      sound_index z = rw (le-leb _ _ s, ← d, not-true p z, and-false (tables_test src c T))

      module _ (z : not p ≡ false) (q : Bool) (e : q ≡ tables_test src c T) where
        pub sound_table : not q ≡ true → false ≡ sound_test src c g T X
        unfolding sound_test
        sound_table h = rw (le-leb _ _ s, ← e, not-true q h)

        module _ (h : not q ≡ false) (v : Bool) (w : v ≡ below (count_at c symbols) (knows_test (lexicon_of src c T) T.t9)) where
          pub sound_known : not v ≡ true → false ≡ sound_test src c g T X
          unfolding sound_test known_test
          sound_known x = rw (le-leb _ _ s, ← e, not-false q h, ← d, not-false p z, ← w, not-true v x)

          pub sound_rest : not v ≡ false → (m n : ℕ) (a b : Bool) → a ≡ ranges_test T.t8 m n → m ≡ count_at c productions → n ≡ count_at c symbols → b ≡ singles_test src g → (a && b) ≡ sound_test src c g T X
          unfolding sound_test known_test
          sound_rest x m n a b i j k l = rw (le-leb _ _ s, ← e, not-false q h, ← d, not-false p z, ← w, not-false v x, i, j, k, l)
