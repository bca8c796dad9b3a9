-- The test says yes exactly where the tables are sound. Assumes nothing.
use Rattle.std.specs.Prelude.{Option, Some, None}
use Prim.Native.Nat.{ℕ, zero, suc, ◌+◌, ◌*◌, ◌≤◌, ◌<◌}
use mathlib.Core.Path.{◌≡◌, refl, sym, ap, ◌∙◌}
use mathlib.Core.List.{List, []}
use mathlib.Core.Bool.{Bool, true, false, ◌||◌, ◌&&◌, false≢true}
use mathlib.Core.Logic.Iff
use mathlib.Core.Logic.{◌↔◌}
use native.Mathlib.Omega.{arith}
use lib.Dec.{eqb}
use lib.ListN.{length, get_or}
use Rattle.tables.specs.Table.{cell, has_name, find_name, same_part}
use Rattle.tables.specs.Rows.{row_at, end_before, Chained}
use Rattle.tables.specs.Layout.{tokens, rules, productions, symbols, symbols_from, symbols_to, posix_from, tags, token_numbers, bodies, width, known_row}
use Rattle.tables.proofs.Cases.{none_iff}
use Rattle.tables.proofs.Rows.{row_cell}
use Rattle.grammar.specs.declared.Counts.{Counts}
use Rattle.grammar.specs.declared.PosixCounts.{PosixCounts}
use Rattle.grammar.specs.declared.Singles.{Singles}
use Rattle.grammar.specs.Sound.{Tables, Indexes, lexicon_of, tab, Differ, Each, Pairs, Table, AllTables, cells_of, PosixSound, Lies, LiesExpected, LiesParam, Lie, sound_view, Sound}
use Rattle.sound.specs.Test.{row_test, names_test, table_test, before, range_test, ranges_test, part_test, expect_test, param_test, singles_test, count_at, known_test, tables_test, posix_test, sound_test}
use Rattle.tables.specs.Below.{below}
use Rattle.tables.proofs.Below.{below_iff}
use Rattle.index.specs.Index.{unfound, fresh_name}
use Rattle.symbols.specs.Symbols.{row_for, Knows, knows_test}
use Rattle.tables.proofs.Tells.{both_iff, le_iff, eq_iff}
use Rattle.sound.proofs.Tells.{chain_iff, clean_iff, lies_iff}
use Rattle.sound.proofs.RowTests.{each_iff}
use Rattle.sound.proofs.Indexes.{indexes_iff}

-- "names in 1 and in 7 are pairwise different"
unfound_iff : (f : Option ℕ) → (unfound f ≡ true) ↔ (f ≡ None)
unfound_iff (Some r) = (λ e. absurd (false≢true e), ap unfound)
unfound_iff None = (λ e. refl, λ e. refl)

module _ (src : List ℕ) (w : ℕ) (t : List ℕ) where
  differ_iff : 1 < w → (q r : ℕ) → (has_name src w 0 t (cell w t r 0) (cell w t r 1) q ≡ false) ↔ Differ src (row_at w t q) (row_at w t r)
  unfolding has_name
  differ_iff h q r = (λ e. record { differ = same ∙ e }, λ d. sym same ∙ d.differ)
    where
      same : same_part src (get_or (row_at w t q) 0 0) (get_or (row_at w t q) 1 0) (get_or (row_at w t r) 0 0) (get_or (row_at w t r) 1 0)
          ≡ same_part src (cell w t q 0) (cell w t q 1) (cell w t r 0) (cell w t r 1)
      same = rw (row_cell w t q 0 (omega arith), row_cell w t q 1 h, row_cell w t r 0 (omega arith), row_cell w t r 1 h)

  fresh_iff : 1 < w → (r : ℕ) → (fresh_name src w 0 t r ≡ true) ↔ ((q : ℕ) → q < r → Differ src (row_at w t q) (row_at w t r))
  unfolding fresh_name
  fresh_iff h r =
      Iff.trans (Iff.trans (unfound_iff (find_name src w 0 r t (cell w t r 0) (cell w t r 1))) (none_iff src w 0 r t (cell w t r 0) (cell w t r 1)))
      (λ f q l. (differ_iff h q r).0 (f q l), λ f q l. (differ_iff h q r).1 (f q l))

  pub apart_iff : 1 < w → (n : ℕ) → (below n (fresh_name src w 0 t) ≡ true) ↔ ((q r : ℕ) → q < r → r < n → Differ src (row_at w t q) (row_at w t r))
  apart_iff h n =
      Iff.trans (below_iff (fresh_name src w 0 t) (λ (r : ℕ). (q : ℕ) → q < r → Differ src (row_at w t q) (row_at w t r)) (fresh_iff h) n)
      (λ f q r k l. f r l q k, λ f r l q k. f q r k l)

-- in other tables they are free
free_iff : (n : ℕ) → (true ≡ true) ↔ ((q r : ℕ) → q < r → r < n → Unit {0})
free_iff n = (λ e q r k l. tt, λ f. refl)

names_iff : (src : List ℕ) (k n : ℕ) (t : List ℕ) → k < 13
    → (names_test (eqb k tokens || eqb k rules) src (width k) n t ≡ true) ↔ ((q r : ℕ) → q < r → r < n → Pairs src k (row_at (width k) t q) (row_at (width k) t r))
names_iff src zero n t h = apart_iff src (width tokens) t (omega arith) n
names_iff src (suc zero) n t h = free_iff n
names_iff src (suc (suc zero)) n t h = free_iff n
names_iff src (suc (suc (suc zero))) n t h = free_iff n
names_iff src (suc (suc (suc (suc zero)))) n t h = free_iff n
names_iff src (suc (suc (suc (suc (suc zero))))) n t h = free_iff n
names_iff src (suc (suc (suc (suc (suc (suc zero)))))) n t h = apart_iff src (width rules) t (omega arith) n
names_iff src (suc (suc (suc (suc (suc (suc (suc zero))))))) n t h = free_iff n
names_iff src (suc (suc (suc (suc (suc (suc (suc (suc zero)))))))) n t h = free_iff n
names_iff src (suc (suc (suc (suc (suc (suc (suc (suc (suc zero))))))))) n t h = free_iff n
names_iff src (suc (suc (suc (suc (suc (suc (suc (suc (suc (suc zero)))))))))) n t h = free_iff n
names_iff src (suc (suc (suc (suc (suc (suc (suc (suc (suc (suc (suc zero))))))))))) n t h = free_iff n
names_iff src (suc (suc (suc (suc (suc (suc (suc (suc (suc (suc (suc (suc zero)))))))))))) n t h = free_iff n
names_iff src (suc (suc (suc (suc (suc (suc (suc (suc (suc (suc (suc (suc (suc k))))))))))))) n t h = absurd (omega arith)

-- a table by itself: "counts fit, cells past them are zero", its rows, its names
pub table_iff : (src : List ℕ) (c : Counts) (k n : ℕ) (t : List ℕ) → k < 13 → (table_test src (count_at c rules) k n t ≡ true) ↔ Table src (sound_view c) k n t
unfolding table_test
table_iff src c k n t h =
    Iff.trans
    (both_iff (le_iff n 4294967295) (both_iff (le_iff (n * width k) (length t)) (both_iff (clean_iff (width k) n t)
    (both_iff (below_iff (row_test src (count_at c rules) k t) (λ (r : ℕ). Each src (sound_view c) k (row_at (width k) t r)) (λ r. each_iff src t r (sound_view c) (λ m. tt) (λ _ a b. tt) k h) n)
    (names_iff src k n t h)))))
    (λ x. record { fits = x.1.0; low = x.0; clean = x.1.1.0; each = x.1.1.1.0; pairs = x.1.1.1.1 }, λ R. (R.low, (R.fits, (R.clean, (R.each, R.pairs)))))

-- all ten
pub tables_iff : (src : List ℕ) (c : Counts) (T : Tables) → (tables_test src c T ≡ true) ↔ ((k : ℕ) → k < 10 → Table src (sound_view c) k (count_at c k) (tab T k))
unfolding tables_test
tables_iff src c T =
    Iff.trans
    (chain_iff (λ k. table_test src (count_at c rules) k (count_at c k) (tab T k)) (λ k. Table src (sound_view c) k (count_at c k) (tab T k)) 9 0
    (λ k a b. table_iff src c k (count_at c k) (tab T k) (omega arith)))
    (λ f k h. f k (omega arith) (omega arith), λ f k a b. f k (omega arith))

-- tables 15 to 17: no row of theirs asks for a rule, so that any count of rules will do
pub posix_iff : (src : List ℕ) (c : Counts) (p : PosixCounts) (T : AllTables) → (posix_test src p T.t15 T.t16 T.t17 ≡ true) ↔ PosixSound src c p T
unfolding posix_test
posix_iff src c p T =
    Iff.trans
    (both_iff (of_table tags (get_or p.n 0 0) T.t15 (omega arith)) (both_iff (of_table token_numbers (get_or p.n 1 0) T.t16 (omega arith)) (of_table bodies (get_or p.n 2 0) T.t17 (omega arith))))
    (λ x. record { tables = three x }, λ s. (s.tables 0 (omega arith), (s.tables 1 (omega arith), s.tables 2 (omega arith))))
  where
    of_table : (k n : ℕ) (t : List ℕ) → k < 13 → (table_test src 0 k n t ≡ true) ↔ Table src (sound_view (record { n = [] })) k n t
    of_table k n t h = table_iff src (record { n = [] }) k n t h

    three : Table src (sound_view c) 10 (get_or p.n 0 0) T.t15 × (Table src (sound_view c) 11 (get_or p.n 1 0) T.t16 × Table src (sound_view c) 12 (get_or p.n 2 0) T.t17) → (k : ℕ) → k < 3 → Table src (sound_view c) (posix_from + k) (get_or p.n k 0) (cells_of T (posix_from + k))
    three x zero h = x.0
    three x (suc zero) h = x.1.0
    three x (suc (suc zero)) h = x.1.1
    three x (suc (suc (suc k))) h = absurd (omega arith)

-- "symbol ranges follow one another in production order and fill table 9"
module _ (t : List ℕ) where
  before_end : (r : ℕ) → end_before (width productions) symbols_to t r ≡ before t r
  unfolding end_before before
  before_end zero = refl
  before_end (suc r) = row_cell (width productions) t r symbols_to (omega arith)

  range_iff : (r : ℕ) → (range_test t r ≡ true)
      ↔ ((get_or (row_at (width productions) t r) symbols_from 0 ≡ end_before (width productions) symbols_to t r) × (get_or (row_at (width productions) t r) symbols_from 0 ≤ get_or (row_at (width productions) t r) symbols_to 0))
  unfolding range_test
  range_iff r =
      rw (row_cell (width productions) t r symbols_from (omega arith), row_cell (width productions) t r symbols_to (omega arith), before_end r)
      (both_iff (eq_iff (cell (width productions) t r symbols_from) (before t r)) (le_iff (cell (width productions) t r symbols_from) (cell (width productions) t r symbols_to)))

  pub ranges_iff : (n m : ℕ) → (ranges_test t n m ≡ true) ↔ Chained (width productions) symbols_from symbols_to n t m
  unfolding ranges_test
  ranges_iff n m =
      Iff.trans (both_iff (below_iff (range_test t) _ range_iff n) (rw (← before_end n) (eq_iff (end_before (width productions) symbols_to t n) m)))
      (λ x. record { begins = λ r h. (x.0 r h).0; onward = λ r h. (x.0 r h).1; last = x.1 }, λ C. (λ r h. (C.begins r h, C.onward r h), C.last))

-- "Each place, singles' too"
module _ (src : List ℕ) where
  part_iff : (p : Option (ℕ × ℕ)) → (part_test src p ≡ true) ↔ Lies src p
  part_iff None = (λ e. tt, λ x. refl)
  part_iff (Some (a, b)) = lies_iff src a b

  expect_iff : (p : Option (ℕ × ℕ × ℕ)) → (expect_test src p ≡ true) ↔ LiesExpected src p
  expect_iff None = (λ e. tt, λ x. refl)
  expect_iff (Some (v, a, b)) = lies_iff src a b

  param_iff : (p : Option (ℕ × ℕ × ℕ × ℕ)) → (param_test src p ≡ true) ↔ LiesParam src p
  param_iff None = (λ e. tt, λ x. refl)
  param_iff (Some (a, b, c, d)) = both_iff (lies_iff src a b) (lies_iff src c d)

  pub singles_iff : (g : Singles) → (singles_test src g ≡ true) ↔ Lie src g
  unfolding singles_test
  singles_iff g =
      Iff.trans
      (both_iff (both_iff (both_iff (both_iff (both_iff (part_iff g.start) (expect_iff g.expect)) (expect_iff g.expect_rr)) (param_iff g.param)) (part_iff g.generics)) (part_iff g.programs)) (
        λ x. record { start = x.0.0.0.0.0; expect = x.0.0.0.0.1; expect_rr = x.0.0.0.1; param = x.0.0.1; generics = x.0.1; programs = x.1 },
        λ l. (((((l.start, l.expect), l.expect_rr), l.param), l.generics), l.programs),
      )

-- Each symbol knows its row
known_iff : (src : List ℕ) (c : Counts) (T : Tables) → (known_test src c T ≡ true) ↔ Knows (lexicon_of src c T) (count_at c symbols) T.t9
unfolding known_test knows_test
known_iff src c T =
    Iff.trans
    (below_iff (knows_test (lexicon_of src c T) T.t9) (λ (s : ℕ). cell (width symbols) T.t9 s known_row ≡ row_for (lexicon_of src c T) T.t9 s) (λ s. eq_iff (cell (width symbols) T.t9 s known_row) (row_for (lexicon_of src c T) T.t9 s)) (count_at c symbols))
    (λ f. record { row = f }, λ k. k.row)

-- a test that counts where an earlier one says yes
both_when : (a b : Bool) {P Q : Type 0} → (a ≡ true) ↔ P → (P → (b ≡ true) ↔ Q) → ((a && b) ≡ true) ↔ (P × Q)
both_when true b f g = (λ h. let p = f.0 refl in (p, (g p).0 h), λ x. (g x.0).1 x.1)
both_when false b f g = (λ h. absurd (false≢true h), λ x. absurd (false≢true (f.1 x.0)))

-- "Tables are sound when"
pub sound_iff : (src : List ℕ) (c : Counts) (g : Singles) (T : Tables) (X : Indexes) → (sound_test src c g T X ≡ true → Sound src c g T X) × (Sound src c g T X → sound_test src c g T X ≡ true)
unfolding sound_test
sound_iff src c g T X =
    Iff.trans
    (both_iff (le_iff (length src) 65536)
    (both_when (tables_test src c T) _ (tables_iff src c T)
    (λ R. both_iff (indexes_iff src c T X (R tokens (omega arith)).fits (R rules (omega arith)).fits (R tokens (omega arith)).low (R rules (omega arith)).low) (both_iff (known_iff src c T) (both_iff (ranges_iff T.t8 (count_at c productions) (count_at c symbols)) (singles_iff src g)))))) (
      λ x. record { short = x.0; fits = λ k h. (x.1.0 k h).fits; low = λ k h. (x.1.0 k h).low; clean = λ k h. (x.1.0 k h).clean; rows = λ k r h. (x.1.0 k h).each r; singles = x.1.1.1.1.1; ranges = x.1.1.1.1.0; known = x.1.1.1.0; names = λ k q r h. (x.1.0 k h).pairs q r; indexes = x.1.1.0 },
      λ s. (s.short, (λ k h. record { fits = s.fits k h; low = s.low k h; clean = s.clean k h; each = λ r. s.rows k r h; pairs = λ q r. s.names k q r h }, (s.indexes, (s.known, (s.ranges, s.singles))))),
    )
