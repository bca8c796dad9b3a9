-- Soundness depends on the rows below the counts: tables with the same rows and zeros behind them are sound with the indexes that entering their rows gives. Assumes nothing.
use Rattle.std.specs.Prelude.{Option, Some}
use Prim.Native.Nat.{ℕ, zero, suc, ◌+◌, ◌*◌, ◌-◌, ◌≤◌, ◌<◌}
use mathlib.Core.Path.{◌≡◌, refl, sym, ap, ◌∙◌}
use mathlib.Core.List.{List, ◌++◌}
use mathlib.Core.Bool.{Bool, true, false}
use native.Mathlib.Omega.{arith}
use native.Mathlib.Decide.{dec_lt}
use lib.Dec.{eqb}
use lib.ListN.{length, get_or, take, drop, replicate}
use lib.Seq.{length-take-le, get_or-take, take_at, drop_at}
use Rattle.tables.specs.Table.{cell, has_name, first_row, find_name}
use Rattle.tables.specs.Rows.{Clean, row_at, Rows, end_before, Chained}
use Rattle.tables.specs.Layout.{tokens, rules, productions, symbols, symbols_from, symbols_to, kind_name, known_row, posix_from, width}
use Rattle.tables.proofs.Rows.{row_below, row_length, row_cell, row_ext}
use Rattle.index.specs.Index.{Sized}
use Rattle.index.proofs.Theorems.{entries_length}
use Rattle.symbols.specs.Symbols.{row_number, named_row, row_for, Knows}
use Rattle.grammar.specs.declared.Counts.{Counts}
use Rattle.grammar.specs.declared.PosixCounts.{PosixCounts}
use Rattle.grammar.specs.declared.Singles.{Singles}
use Rattle.grammar.proofs.Far.{ten_tab}
use Rattle.grammar.specs.Sound.{AllTables, ten_of, tab, cells_of, Indexes, SoundIndexes, lexicon_of, Table, sound_view, Sound, PosixSound}
use Rattle.catalogue.specs.Catalogue.{rows_at, cells_at}
use Rattle.catalogue.proofs.Laws.{rows_ten, rows_three}
use Rattle.restoring.specs.Restoring.{entered_indexes}

-- ---- a table with the same rows

-- the first row that passes, by tests that agree on the rows
first_same : (p q : ℕ → Bool) (n i : ℕ) → ((r : ℕ) → i ≤ r → r < i + n → p r ≡ q r) → first_row p n i ≡ first_row q n i
unfolding first_row
first_same p q zero i f = refl
first_same p q (suc n) i f =
    ap (λ (b : Bool). elim b [ true ↦ Some i | false ↦ first_row p n (i + 1) ]) (f i (omega arith) (omega arith))
    ∙ ap (λ (o : Option ℕ). elim (q i) [ true ↦ Some i | false ↦ o ]) (first_same p q n (i + 1) (λ r a b. f r (omega arith) (omega arith)))

module _ (w n : ℕ) (t u : List ℕ) (ft : n * w ≤ length t) (fu : n * w ≤ length u) (e : take (n * w) u ≡ take (n * w) t) where
  pub cell_same : (r k : ℕ) → r < n → k < w → cell w u r k ≡ cell w t r k
  cell_same r k h l =
      let b = row_below w r n h in
      sym (get_or-take (n * w) u (r * w + k) 0 (omega arith)) ∙ ap (λ (x : List ℕ). get_or x (r * w + k) 0) e ∙ get_or-take (n * w) t (r * w + k) 0 (omega arith)

  pub row_same : (r : ℕ) → r < n → row_at w u r ≡ row_at w t r
  row_same r h =
      let b = row_below w r n h in
      row_ext w u r (omega arith) (row_at w t r) (row_length w t r (omega arith)) (λ k l. cell_same r k h l ∙ sym (row_cell w t r k l))

  pub rows_same : {P : List ℕ → Type 0} {Q : List ℕ → List ℕ → Type 0} → Clean w n u → Rows P Q w n t → Rows P Q w n u
  rows_same c R = record { fits = fu; low = R.low; clean = c; each = λ r h. rw (row_same r h) (R.each r h); pairs = λ q r l h. rw (row_same q (omega arith), row_same r h) (R.pairs q r l h) }

  end_same : (to r : ℕ) → r ≤ n → end_before w to u r ≡ end_before w to t r
  unfolding end_before
  end_same to zero h = refl
  end_same to (suc r) h = rw (row_same r h)

  pub chain_same : (from to m : ℕ) → Chained w from to n t m → Chained w from to n u m
  chain_same from to m C =
      record {
        begins = λ r h. rw (row_same r h, end_same to r (omega arith)) (C.begins r h);
        onward = λ r h. rw (row_same r h) (C.onward r h);
        last = end_same to n (omega arith) ∙ C.last;
      }

  pub find_same : 1 < w → (src : List ℕ) (a b : ℕ) → find_name src w 0 n u a b ≡ find_name src w 0 n t a b
  unfolding find_name has_name
  find_same l src a b = first_same (has_name src w 0 u a b) (has_name src w 0 t a b) n 0 (λ r _ h. rw (cell_same r 0 (omega arith) (omega arith), cell_same r (0 + 1) (omega arith) l))

-- ---- all tables

-- what soundness says of each of the thirteen
pub sound_table : (src : List ℕ) (c : Counts) (p : PosixCounts) (g : Singles) (T : AllTables) (X : Indexes) → Sound src c g (ten_of T) X → PosixSound src c p T → (k : ℕ) → k < 13 → Table src (sound_view c) k (rows_at c p k) (cells_of T k)
sound_table src c p g T X S P k h =
    elim (dec_lt k 10) [
      | yes l ↦ rw (← ten_tab T k l, ← rows_ten c p k l) (record { fits = S.fits k l; low = S.low k l; clean = S.clean k l; each = λ r b. S.rows k r l b; pairs = λ q r a b. S.names k q r l a b })
      | no l ↦
          let e : posix_from + (k - 10) ≡ k = omega arith in
          rw (← rows_three c p k (omega arith) h) (rw e at (P.tables (k - 10) (omega arith)))
    ]

module _ (src : List ℕ) (c : Counts) (p : PosixCounts) (g : Singles) (T : AllTables) (X : Indexes) (U : AllTables) (m n : ℕ) (S : Sound src c g (ten_of T) X) (P : PosixSound src c p T) (fits : (k : ℕ) → k < 13 → cells_at c p k ≤ length (cells_of U k)) (same : (k : ℕ) → k < 13 → cells_of U k ≡ take (cells_at c p k) (cells_of T k) ++ replicate (length (cells_of U k) - cells_at c p k) 0) where
  -- each table as it was
  was : (k : ℕ) → k < 13 → Table src (sound_view c) k (rows_at c p k) (cells_of T k)
  was = sound_table src c p g T X S P

  front : (k : ℕ) → k < 13 → take (cells_at c p k) (cells_of U k) ≡ take (cells_at c p k) (cells_of T k)
  front k h = let xs = take (cells_at c p k) (cells_of T k) in ap (take (cells_at c p k)) (same k h) ∙ take_at xs (replicate (length (cells_of U k) - cells_at c p k) 0) (cells_at c p k) (length-take-le (cells_at c p k) (cells_of T k) (was k h).fits)

  clean : (k : ℕ) → k < 13 → Clean (width k) (rows_at c p k) (cells_of U k)
  clean k h = let xs = take (cells_at c p k) (cells_of T k) in record { zeros = ap (drop (cells_at c p k)) (same k h) ∙ drop_at xs (replicate (length (cells_of U k) - cells_at c p k) 0) (cells_at c p k) (length-take-le (cells_at c p k) (cells_of T k) (was k h).fits) }

  -- and as it is
  now : (k : ℕ) → k < 13 → Table src (sound_view c) k (rows_at c p k) (cells_of U k)
  now k h = rows_same (width k) (rows_at c p k) (cells_of T k) (cells_of U k) (was k h).fits (fits k h) (front k h) (clean k h) (was k h)

  now_ten : (k : ℕ) → k < 10 → Table src (sound_view c) k (get_or c.n k 0) (tab (ten_of U) k)
  now_ten k h = rw (ten_tab U k h, rows_ten c p k h) (now k (omega arith))

  now_three : (k : ℕ) → k < 3 → Table src (sound_view c) (posix_from + k) (get_or p.n k 0) (cells_of U (posix_from + k))
  now_three k h =
      let e : posix_from + k - 10 ≡ k = omega arith in
      let f : get_or p.n k 0 ≡ rows_at c p (posix_from + k) = rw e at (rows_three c p (posix_from + k) (omega arith) (omega arith)) in
      rw f (now (posix_from + k) (omega arith))

  -- symbols know the same rows
  find_at : (k : ℕ) → k < 13 → 1 < width k → (a b : ℕ) → find_name src (width k) 0 (rows_at c p k) (cells_of U k) a b ≡ find_name src (width k) 0 (rows_at c p k) (cells_of T k) a b
  find_at k h l a b = find_same (width k) (rows_at c p k) (cells_of T k) (cells_of U k) (was k h).fits (fits k h) (front k h) l src a b

  named_same : (kind a b : ℕ) → named_row (lexicon_of src c (ten_of U)) kind a b ≡ named_row (lexicon_of src c (ten_of T)) kind a b
  unfolding named_row
  named_same kind a b =
      ap (λ (o : Option ℕ). elim (eqb kind 1) [ true ↦ row_number o | false ↦ row_number (find_name src (width tokens) 0 (get_or c.n tokens 0) U.t1 a b) ]) (find_at rules (omega arith) (omega arith) a b)
      ∙ ap (λ (o : Option ℕ). elim (eqb kind 1) [ true ↦ row_number (find_name src (width rules) 0 (get_or c.n rules 0) T.t7 a b) | false ↦ row_number o ]) (find_at tokens (omega arith) (omega arith) a b)

  knows_now : Knows (lexicon_of src c (ten_of U)) (get_or c.n symbols 0) U.t9
  unfolding row_for
  knows_now = record { row = λ s h. rw (at s known_row h (omega arith), at s 0 h (omega arith), at s kind_name h (omega arith), at s (kind_name + 1) h (omega arith), named_same) (S.known.row s h) }
    where
      at : (s k : ℕ) → s < get_or c.n symbols 0 → k < width symbols → cell (width symbols) U.t9 s k ≡ cell (width symbols) T.t9 s k
      at s k h l = cell_same (width symbols) (rows_at c p symbols) T.t9 U.t9 (was symbols (omega arith)).fits (fits symbols (omega arith)) (front symbols (omega arith)) s k h l

  indexes_now : Sized m (length U.t1) (width tokens) → Sized n (length U.t7) (width rules) → SoundIndexes src c (ten_of U) (entered_indexes src c U m n)
  indexes_now a b =
      let d = entries_length src (width tokens) 0 U.t1 m (get_or c.n tokens 0) in
      let e = entries_length src (width rules) 0 U.t7 n (get_or c.n rules 0) in
      record { token_size = rw d a; rule_size = rw e b; tokens = record { holds = rw d }; rules = record { holds = rw e } }

  -- the indexes' sizes must be right for the tables as they are
  pub rows_sound : Sized m (length U.t1) (width tokens) → Sized n (length U.t7) (width rules) → (Y : Indexes) → Y ≡ entered_indexes src c U m n → Sound src c g (ten_of U) Y × PosixSound src c p U
  rows_sound a b Y e = (
    record {
      short = S.short;
      fits = λ k h. (now_ten k h).fits;
      low = S.low;
      clean = λ k h. (now_ten k h).clean;
      rows = λ k r h l. (now_ten k h).each r l;
      singles = S.singles;
      ranges = chain_same (width productions) (rows_at c p productions) T.t8 U.t8 (was productions (omega arith)).fits (fits productions (omega arith)) (front productions (omega arith)) symbols_from symbols_to (get_or c.n symbols 0) S.ranges;
      names = λ k q r h l i. (now_ten k h).pairs q r l i;
      indexes = rw e (indexes_now a b);
      known = knows_now;
    },
    record { tables = now_three },
  )
