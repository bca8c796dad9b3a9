-- Where the names of two readings are alike, their symbols know the same rows and their indexes hold the same slots. Assumes nothing.
use Rattle.std.specs.Prelude.{Option}
use Prim.Native.Nat.{ℕ, zero, suc, ◌+◌, ◌*◌, ◌%◌, ◌≤◌, ◌<◌}
use mathlib.Core.Path.{◌≡◌, refl, sym, ◌∙◌, ap, ap₂}
use mathlib.Core.List.{List}
use mathlib.Core.Bool.{true, false}
use native.Mathlib.Omega.{arith}
use lib.Dec.{eqb}
use lib.ListN.{length, get_or, set}
use Rattle.scan.proofs.Bytes.{within_yes}
use Rattle.tables.specs.Layout.{tokens, rules, symbols, kind_name, known_row, width}
use Rattle.tables.specs.Table.{cell}
use Rattle.tables.specs.Rows.{row_at}
use Rattle.tables.proofs.Rows.{row_cell}
use Rattle.index.specs.Hash.{hash_from, hash_of}
use Rattle.index.specs.Index.{free_slot, enter_row, entries}
use Rattle.symbols.specs.Symbols.{row_number, Lexicon, named_row, row_for, filled_rows}
use Rattle.symbols.proofs.Laws.{fill_cell, fill_length, fill_row}
use Rattle.grammar.specs.declared.Counts.{Counts}
use Rattle.grammar.specs.Sound.{AllTables, ten_of, cells_of, Indexes, lexicon_of}
use Rattle.alike.specs.Like.{Same, Fields, fields, Table}
use Rattle.alike.proofs.Rows.{find_like, names_like}

module _ (src out : List ℕ) where
  -- the same bytes have the same number,
  hash_like : (a b c d : ℕ) → Same src out a b c d → hash_of src a b ≡ hash_of out c d
  unfolding hash_of
  hash_like a b c d x =
      rw (within_yes a (length src) b x.here.0 x.here.1, within_yes c (length out) d x.there.0 x.there.1, hash_of) (ap (hash_from 5381) x.bytes)

  -- so rows whose names are alike are entered in the same slots
  entries_like : (w k m n : ℕ) (t u : List ℕ) → ((r : ℕ) → r < n → Same src out (cell w t r k) (cell w t r (k + 1)) (cell w u r k) (cell w u r (k + 1))) → entries src w k t m n ≡ entries out w k u m n
  unfolding entries enter_row
  entries_like w k m zero t u names = refl
  entries_like w k m (suc n) t u names =
      ap₂ (λ (h : ℕ) (ix : List ℕ). set ix (free_slot ix (length ix) (h % length ix)) (n + 1)) (hash_like _ _ _ _ (names n (omega arith))) (entries_like w k m n t u (λ r l. names r (omega arith)))

  -- symbols that are alike and belong to the same rows are alike with their rows filled in
  filled_like : (g h : Lexicon) (n : ℕ) (t u : List ℕ) → Table src out symbols n t u → ((r : ℕ) → r < n → row_for g t r ≡ row_for h u r) → Table src out symbols n (filled_rows g t n) (filled_rows h u n)
  filled_like g h n t u a e =
      let l = a.long in
      let f = a.fits in
      record {
        long = fill_length g t n ∙ l ∙ sym (fill_length h u n);
        fits = rw (fill_length g t n) f;
        rows = λ r k.
            let x = a.rows r k in (
              fill_cell g t n r 0 (omega arith) ∙ x.0 ∙ sym (fill_cell h u n r 0 (omega arith)),
              (
                rw (fill_cell g t n r 1 (omega arith), fill_cell g t n r 2 (omega arith), fill_cell h u n r 1 (omega arith), fill_cell h u n r 2 (omega arith)) x.1.0,
                (known g t n r f k ∙ e r k ∙ sym (known h u n r (omega arith) k), tt),
              ),
            );
      }
    where
      known : (g : Lexicon) (t : List ℕ) (n r : ℕ) → n * width symbols ≤ length t → r < n → get_or (row_at (width symbols) (filled_rows g t n) r) known_row 0 ≡ row_for g t r
      known g t n r f k = row_cell (width symbols) (filled_rows g t n) r known_row (omega arith) ∙ fill_row g t n r f k

-- the symbols of a reading that ended with their rows filled in, and its indexes
abbrev pub symbols_of : List ℕ → Counts → AllTables → List ℕ
symbols_of src c T = filled_rows (lexicon_of src c (ten_of T)) T.t9 (get_or c.n symbols 0)

abbrev pub indexes_of : List ℕ → Counts → AllTables → Indexes → Indexes
indexes_of src c T X =
    record {
      tokens = entries src (width tokens) 0 T.t1 (length X.tokens) (get_or c.n tokens 0);
      rules = entries src (width rules) 0 T.t7 (length X.rules) (get_or c.n rules 0);
    }

-- Two readings with the same counts and with tables that are alike.
module _ (src out : List ℕ) (c : Counts) (T W : AllTables) (tables : (k : ℕ) → k < 10 → Table src out k (get_or c.n k 0) (cells_of T k) (cells_of W k)) where
  abbrev here : Lexicon
  here = lexicon_of src c (ten_of T)

  abbrev there : Lexicon
  there = lexicon_of out c (ten_of W)

  -- the names of a table that has them first
  names : (k : ℕ) → k < 10 → 1 < width k → ((x y : List ℕ) → Fields src out (fields k) x y → Same src out (get_or x 0 0) (get_or x 1 0) (get_or y 0 0) (get_or y 1 0))
      → (r : ℕ) → r < get_or c.n k 0 → Same src out (cell (width k) (cells_of T k) r 0) (cell (width k) (cells_of T k) r 1) (cell (width k) (cells_of W k) r 0) (cell (width k) (cells_of W k) r 1)
  names k h w name = names_like src out (fields k) (width k) 0 (get_or c.n k 0) (cells_of T k) (cells_of W k) (omega arith) (tables k h) name

  -- those of tables 1 and 7
  token_names : (r : ℕ) → r < get_or c.n tokens 0 → let w = width tokens in Same src out (cell w T.t1 r 0) (cell w T.t1 r 1) (cell w W.t1 r 0) (cell w W.t1 r 1)
  token_names = names tokens (omega arith) (omega arith) (λ x y z. z.0)

  rule_names : (r : ℕ) → r < get_or c.n rules 0 → let w = width rules in Same src out (cell w T.t7 r 0) (cell w T.t7 r 1) (cell w W.t7 r 0) (cell w W.t7 r 1)
  rule_names = names rules (omega arith) (omega arith) (λ x y z. z.0)

  -- the same name has the same row,
  named_like : (kind a b e f : ℕ) → Same src out a b e f → named_row here kind a b ≡ named_row there kind e f
  unfolding named_row
  named_like kind a b e f x =
      ap₂ (λ (p q : Option ℕ). elim (eqb kind 1) [ true ↦ row_number p | false ↦ row_number q ])
      (find_like src out (width rules) 0 (get_or c.n rules 0) T.t7 W.t7 (omega arith) rule_names a b e f x)
      (find_like src out (width tokens) 0 (get_or c.n tokens 0) T.t1 W.t1 (omega arith) token_names a b e f x)

  -- and so has the same symbol
  row_like : (r : ℕ) → r < get_or c.n symbols 0 → row_for here T.t9 r ≡ row_for there W.t9 r
  unfolding row_for
  row_like r l =
      let a = tables symbols (omega arith) in
      let w = width symbols in
      let kind : cell w T.t9 r 0 ≡ cell w W.t9 r 0 = sym (row_cell w T.t9 r 0 (omega arith)) ∙ (a.rows r l).0 ∙ row_cell w W.t9 r 0 (omega arith) in
      let x = names_like src out (fields symbols) w kind_name (get_or c.n symbols 0) T.t9 W.t9 (omega arith) a (λ x y z. z.1.0) r l in
      ap (λ (k : ℕ). named_row here k (cell w T.t9 r kind_name) (cell w T.t9 r (kind_name + 1))) kind ∙ named_like _ _ _ _ _ x

  -- Symbols are alike with their rows filled in,
  pub symbols_like : Table src out symbols (get_or c.n symbols 0) (symbols_of src c T) (symbols_of out c W)
  symbols_like = filled_like src out here there (get_or c.n symbols 0) T.t9 W.t9 (tables symbols (omega arith)) row_like

  -- and the indexes are the same.
  pub indexes_like : (X : Indexes) → indexes_of src c T X ≡ indexes_of out c W X
  indexes_like X =
      ap₂ (λ (x y : List ℕ). record { tokens = x; rules = y })
      (entries_like src out (width tokens) 0 (length X.tokens) (get_or c.n tokens 0) T.t1 W.t1 token_names)
      (entries_like src out (width rules) 0 (length X.rules) (get_or c.n rules 0) T.t7 W.t7 rule_names)
