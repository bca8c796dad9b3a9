-- Numbering again, where all rows stay, changes nothing: for "pruning twice gives the tables of pruning once". Assumes nothing.
use Prim.Native.Nat.{ℕ, zero, suc, ◌+◌, ◌-◌, ◌<◌}
use mathlib.Core.Path.{◌≡◌, refl, sym, ap, ap₂, ◌∙◌}
use mathlib.Core.List.{List, [], ◌∷◌, ◌++◌}
use native.Mathlib.Omega.{arith}
use lib.ListN.{length, get_or, set}
use lib.Seq.{ext_get_or, set-get_or, get_or-set_same, get_or-set_other}
use Rattle.tables.specs.Rows.{row_at, rows_of}
use Rattle.tables.specs.Layout.{productions, symbols, rule_row, symbols_from, symbols_to, known_row, width}
use Rattle.tables.proofs.Rows.{rows_of_length, rows_of_at}
use Rattle.grammar.specs.declared.Counts.{Counts}
use Rattle.closing.specs.Close.{rank, table_of}
use Rattle.closing.proofs.Numbers.{Wide, table_row}
use Rattle.pruning.specs.Pruned.{rule_stays, renumbered_rule, rechained, chained, new_number, renumbered_symbol, renumbered_symbols, symbols_of}
use Rattle.pruning.proofs.Rows.{size_of, offset, made_rule, made_from, made_to}

-- rows as a table, and back
pub rows_back : (size w : ℕ) (rows : List (List ℕ)) → Wide w rows → rows_of w (length rows) (table_of size rows) ≡ rows
rows_back size w rows p =
    ext_get_or [] (rows_of w (length rows) (table_of size rows)) rows (rows_of_length w (table_of size rows) (length rows))
    (λ i h. let l : i < length rows = omega (arith, rows_of_length w (table_of size rows) (length rows)) in rows_of_at w (table_of size rows) (length rows) i l ∙ table_row size w rows i p l)

module _ (ws vs : List ℕ) where
  -- a production that was numbered is numbered the same again
  row_fixed : (e : ℕ) (x : List ℕ) → length x ≡ width productions → rank (rule_stays vs) (rank (rule_stays ws) (get_or x rule_row 0)) ≡ rank (rule_stays ws) (get_or x rule_row 0) → rechained e (renumbered_rule vs (rechained e (renumbered_rule ws x))) ≡ rechained e (renumbered_rule ws x)
  row_fixed e x wide same =
      let y = rechained e (renumbered_rule ws x) in
      let a = made_rule ws e x wide in
      let b = made_from ws e x wide in
      let d = made_to ws e x wide in
      let r : rank (rule_stays vs) (get_or y rule_row 0) ≡ get_or y rule_row 0 = ap (rank (rule_stays vs)) a ∙ (same ∙ sym a) in
      let f : renumbered_rule vs y ≡ y = ap (λ (v : ℕ). set y rule_row v) r ∙ set-get_or y rule_row 0 in
      let g : set y symbols_from e ≡ y = ap (λ (v : ℕ). set y symbols_from v) (sym b) ∙ set-get_or y symbols_from 0 in
      let h : e + (get_or y symbols_to 0 - get_or y symbols_from 0) ≡ get_or y symbols_to 0 = omega arith in
      ap (rechained e) f ∙ (ap₂ (λ (z : List ℕ) (v : ℕ). set z symbols_to v) g h ∙ set-get_or y symbols_to 0)

  pub chained_fixed : (e : ℕ) (rows : List (List ℕ)) → Wide (width productions) rows → ((i : ℕ) → i < length rows → rank (rule_stays vs) (rank (rule_stays ws) (get_or (get_or rows i []) rule_row 0)) ≡ rank (rule_stays ws) (get_or (get_or rows i []) rule_row 0)) → chained vs e (chained ws e rows) ≡ chained ws e rows
  unfolding chained
  chained_fixed e [] p f = refl
  chained_fixed e (x ∷ rows) p f =
      let wide = p 0 (omega arith) in
      let b = made_from ws e x wide in
      let d = made_to ws e x wide in
      let n : e + (get_or (rechained e (renumbered_rule ws x)) symbols_to 0 - get_or (rechained e (renumbered_rule ws x)) symbols_from 0) ≡ e + size_of x = omega arith in
      let ih = chained_fixed (e + size_of x) rows (λ i h. p (suc i) (omega arith)) (λ i h. f (suc i) (omega arith)) in
      ap₂ (λ (y : List ℕ) (l : List (List ℕ)). y ∷ l) (row_fixed e x wide (f 0 (omega arith))) (ap (λ (k : ℕ). chained vs k (chained ws (e + size_of x) rows)) n ∙ ih)

-- and so is a symbol
pub symbol_fixed : (c d : Counts) (ws vs x : List ℕ) → length x ≡ width symbols → new_number d vs (get_or x 0 0) (new_number c ws (get_or x 0 0) (get_or x known_row 0)) ≡ new_number c ws (get_or x 0 0) (get_or x known_row 0) → renumbered_symbol d vs (renumbered_symbol c ws x) ≡ renumbered_symbol c ws x
symbol_fixed c d ws vs x wide same =
    let y = renumbered_symbol c ws x in
    let v = new_number c ws (get_or x 0 0) (get_or x known_row 0) in
    let a : get_or y 0 0 ≡ get_or x 0 0 = get_or-set_other x known_row 0 v 0 (λ q. omega arith) in
    let b : get_or y known_row 0 ≡ v = get_or-set_same x known_row v 0 (omega arith) in
    let n : new_number d vs (get_or y 0 0) (get_or y known_row 0) ≡ get_or y known_row 0 = ap₂ (new_number d vs) a b ∙ (same ∙ sym b) in
    ap (λ (w : ℕ). set y known_row w) n ∙ set-get_or y known_row 0

rows_same : (c d : Counts) (ws vs t u : List ℕ) (a b n : ℕ) → ((k : ℕ) → k < n → renumbered_symbol d vs (row_at (width symbols) u (a + k)) ≡ renumbered_symbol c ws (row_at (width symbols) t (b + k))) → renumbered_symbols d vs u a n ≡ renumbered_symbols c ws t b n
unfolding renumbered_symbols
rows_same c d ws vs t u a b zero f = refl
rows_same c d ws vs t u a b (suc n) f =
    let p : a + 0 ≡ a = omega arith in
    let q : b + 0 ≡ b = omega arith in
    let h : renumbered_symbol d vs (row_at (width symbols) u a) ≡ renumbered_symbol c ws (row_at (width symbols) t b) = ap (λ (i : ℕ). renumbered_symbol d vs (row_at (width symbols) u i)) (sym p) ∙ (f 0 (omega arith) ∙ ap (λ (i : ℕ). renumbered_symbol c ws (row_at (width symbols) t i)) q) in
    let ih = rows_same c d ws vs t u (a + 1) (b + 1) n (λ k l. let x : a + 1 + k ≡ a + suc k = omega arith in let y : b + 1 + k ≡ b + suc k = omega arith in ap (λ (i : ℕ). renumbered_symbol d vs (row_at (width symbols) u i)) x ∙ (f (suc k) (omega arith) ∙ ap (λ (i : ℕ). renumbered_symbol c ws (row_at (width symbols) t i)) (sym y))) in
    ap₂ (λ (y : List ℕ) (l : List (List ℕ)). y ∷ l) h ih

-- the symbols of productions that were numbered, in the table that was closed up, are those they had
pub symbols_fixed : (c d : Counts) (ws vs t9 u9 : List ℕ) (e : ℕ) (rows : List (List ℕ)) → Wide (width productions) rows → ((i k : ℕ) → i < length rows → k < size_of (get_or rows i []) → renumbered_symbol d vs (row_at (width symbols) u9 (e + offset rows i + k)) ≡ renumbered_symbol c ws (row_at (width symbols) t9 (get_or (get_or rows i []) symbols_from 0 + k))) → symbols_of d vs u9 (chained ws e rows) ≡ symbols_of c ws t9 rows
unfolding symbols_of chained offset
symbols_fixed c d ws vs t9 u9 e [] p f = refl
symbols_fixed c d ws vs t9 u9 e (x ∷ rows) p f =
    let wide = p 0 (omega arith) in
    let from = made_from ws e x wide in
    let to = made_to ws e x wide in
    let y = rechained e (renumbered_rule ws x) in
    let n : get_or y symbols_to 0 - get_or y symbols_from 0 ≡ size_of x = omega arith in
    let z : (k : ℕ) → renumbered_symbol d vs (row_at (width symbols) u9 (e + k)) ≡ renumbered_symbol d vs (row_at (width symbols) u9 (e + 0 + k)) = λ k. let q : e + k ≡ e + 0 + k = omega arith in ap (λ (i : ℕ). renumbered_symbol d vs (row_at (width symbols) u9 i)) q in
    let g = rows_same c d ws vs t9 u9 e (get_or x symbols_from 0) (size_of x) (λ k l. z k ∙ f 0 k (omega arith) l) in
    let h : renumbered_symbols d vs u9 (get_or y symbols_from 0) (get_or y symbols_to 0 - get_or y symbols_from 0) ≡ renumbered_symbols c ws t9 (get_or x symbols_from 0) (size_of x) = ap₂ (λ (i j : ℕ). renumbered_symbols d vs u9 i j) from n ∙ g in
    let ih = symbols_fixed c d ws vs t9 u9 (e + size_of x) rows (λ i l. p (suc i) (omega arith)) (λ i k l m. let q : e + size_of x + offset rows i + k ≡ e + (size_of x + offset rows i) + k = omega arith in ap (λ (j : ℕ). renumbered_symbol d vs (row_at (width symbols) u9 j)) q ∙ f (suc i) k (omega arith) m) in
    ap₂ (λ (l m : List (List ℕ)). l ++ m) h ih
