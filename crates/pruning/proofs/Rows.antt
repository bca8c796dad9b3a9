-- Where the rows of tables 8 and 9 are after pruning. Assumes nothing.
use Prim.Native.Nat.{ℕ, zero, suc, ◌+◌, ◌*◌, ◌-◌, ◌≤◌, ◌<◌}
use mathlib.Core.Path.{◌≡◌, refl, ap, ◌∙◌}
use mathlib.Core.List.{List, [], ◌∷◌, ◌++◌}
use native.Mathlib.Omega.{arith}
use native.Mathlib.Decide.{dec_lt}
use lib.ListN.{length, get_or, set, length-append, length-set, get_or-append}
use lib.Seq.{get_or-append-add, get_or-set_same, get_or-set_other}
use borrow.Author.Tests.{eq-eqb, ne_eqb}
use Rattle.tables.specs.Rows.{row_at}
use Rattle.tables.specs.Layout.{productions, symbols, rule_row, symbols_from, symbols_to, width}
use Rattle.tables.proofs.Rows.{row_length}
use Rattle.grammar.specs.declared.Counts.{Counts}
use Rattle.closing.specs.Close.{rank}
use Rattle.closing.proofs.Numbers.{Wide}
use Rattle.pruning.specs.Pruned.{rule_stays, token_stays, new_number, renumbered_rule, rechained, chained, renumbered_symbol, renumbered_symbols, symbols_of}

-- how many symbols a production has, and where those of production i begin among the productions that stay
abbrev pub size_of : List ℕ → ℕ
size_of x = get_or x symbols_to 0 - get_or x symbols_from 0

unfoldable pub offset : List (List ℕ) → ℕ → ℕ
offset [] i = 0
offset (x ∷ xs) zero = 0
offset (x ∷ xs) (suc i) = size_of x + offset xs i

module _ (c : Counts) (ws t9 : List ℕ) where
  rows_length : (r n : ℕ) → length (renumbered_symbols c ws t9 r n) ≡ n
  unfolding renumbered_symbols
  rows_length r zero = refl
  rows_length r (suc n) = ap suc (rows_length (r + 1) n)

  rows_at : (r n k : ℕ) → k < n → get_or (renumbered_symbols c ws t9 r n) k [] ≡ renumbered_symbol c ws (row_at (width symbols) t9 (r + k))
  unfolding renumbered_symbols
  rows_at r zero k h = absurd (omega arith)
  rows_at r (suc n) zero h = let e : r + 0 ≡ r = omega arith in rw e
  rows_at r (suc n) (suc k) h = let e : r + suc k ≡ r + 1 + k = omega arith in rw e (rows_at (r + 1) n k (omega arith))

-- the symbols of production i, one by one
pub symbols_at : (c : Counts) (ws t9 : List ℕ) (rows : List (List ℕ)) (i k : ℕ) → i < length rows → k < size_of (get_or rows i []) → get_or (symbols_of c ws t9 rows) (offset rows i + k) [] ≡ renumbered_symbol c ws (row_at (width symbols) t9 (get_or (get_or rows i []) symbols_from 0 + k))
unfolding symbols_of offset
symbols_at c ws t9 [] i k h l = absurd (omega arith)
symbols_at c ws t9 (x ∷ rows) zero k h l =
    let e : 0 + k ≡ k = omega arith in
    rw e (get_or-append (renumbered_symbols c ws t9 (get_or x symbols_from 0) (size_of x)) _ [] k (rw rows_length l) ∙ rows_at c ws t9 (get_or x symbols_from 0) (size_of x) k l)
symbols_at c ws t9 (x ∷ rows) (suc i) k h l =
    let n = rows_length c ws t9 (get_or x symbols_from 0) (size_of x) in
    let e : size_of x + offset rows i + k ≡ length (renumbered_symbols c ws t9 (get_or x symbols_from 0) (size_of x)) + (offset rows i + k) = omega arith in
    rw e (get_or-append-add (renumbered_symbols c ws t9 (get_or x symbols_from 0) (size_of x)) (symbols_of c ws t9 rows) (offset rows i + k) [] ∙ symbols_at c ws t9 rows i k (omega arith) l)

pub symbols_length : (c : Counts) (ws t9 : List ℕ) (rows : List (List ℕ)) → length (symbols_of c ws t9 rows) ≡ offset rows (length rows)
unfolding symbols_of offset
symbols_length c ws t9 [] = refl
symbols_length c ws t9 (x ∷ rows) = let e = symbols_length c ws t9 rows in rw (length-append, rows_length, e)

pub offset_up : (rows : List (List ℕ)) (i : ℕ) → i < length rows → offset rows i + size_of (get_or rows i []) ≤ offset rows (length rows)
unfolding offset
offset_up [] i h = absurd (omega arith)
offset_up (x ∷ rows) zero h = omega arith
offset_up (x ∷ rows) (suc i) h = let e = offset_up rows i (omega arith) in omega arith

-- production i: its rule's new number, and its range
pub chained_at : (ws : List ℕ) (e : ℕ) (rows : List (List ℕ)) (i : ℕ) → i < length rows → get_or (chained ws e rows) i [] ≡ rechained (e + offset rows i) (renumbered_rule ws (get_or rows i []))
unfolding chained offset
chained_at ws e [] i h = absurd (omega arith)
chained_at ws e (x ∷ rows) zero h = let n : e + 0 ≡ e = omega arith in rw n
chained_at ws e (x ∷ rows) (suc i) h = let n : e + (size_of x + offset rows i) ≡ e + size_of x + offset rows i = omega arith in rw n (chained_at ws (e + size_of x) rows i (omega arith))

pub chained_length : (ws : List ℕ) (e : ℕ) (rows : List (List ℕ)) → length (chained ws e rows) ≡ length rows
unfolding chained
chained_length ws e [] = refl
chained_length ws e (x ∷ rows) = ap suc (chained_length ws (e + size_of x) rows)

-- the cells of such a row
module _ (ws : List ℕ) (e : ℕ) (x : List ℕ) (wide : length x ≡ width productions) where
  pub made_rule : get_or (rechained e (renumbered_rule ws x)) rule_row 0 ≡ rank (rule_stays ws) (get_or x rule_row 0)
  made_rule =
      get_or-set_other (set (renumbered_rule ws x) symbols_from e) symbols_to rule_row (e + (get_or (renumbered_rule ws x) symbols_to 0 - get_or (renumbered_rule ws x) symbols_from 0)) 0 (λ q. omega arith)
      ∙ (get_or-set_other (renumbered_rule ws x) symbols_from rule_row e 0 (λ q. omega arith) ∙ get_or-set_same x rule_row (rank (rule_stays ws) (get_or x rule_row 0)) 0 (omega arith))

  pub made_from : get_or (rechained e (renumbered_rule ws x)) symbols_from 0 ≡ e
  made_from = get_or-set_other (set (renumbered_rule ws x) symbols_from e) symbols_to symbols_from (e + (get_or (renumbered_rule ws x) symbols_to 0 - get_or (renumbered_rule ws x) symbols_from 0)) 0 (λ q. omega arith) ∙ get_or-set_same (renumbered_rule ws x) symbols_from e 0 (rw length-set (omega arith))

  pub made_to : get_or (rechained e (renumbered_rule ws x)) symbols_to 0 ≡ e + size_of x
  made_to =
      get_or-set_same (set (renumbered_rule ws x) symbols_from e) symbols_to (e + (get_or (renumbered_rule ws x) symbols_to 0 - get_or (renumbered_rule ws x) symbols_from 0)) 0 (simp length-set (omega arith))
      ∙ ap (λ (n : ℕ). e + n) (rw (get_or-set_other x rule_row symbols_to (rank (rule_stays ws) (get_or x rule_row 0)) 0 (λ q. omega arith), get_or-set_other x rule_row symbols_from (rank (rule_stays ws) (get_or x rule_row 0)) 0 (λ q. omega arith)))

pub made_other : (ws : List ℕ) (e : ℕ) (x : List ℕ) (k : ℕ) → (k ≡ rule_row → ⊥) → (k ≡ symbols_from → ⊥) → (k ≡ symbols_to → ⊥) → get_or (rechained e (renumbered_rule ws x)) k 0 ≡ get_or x k 0
made_other ws e x k a b d =
    get_or-set_other (set (renumbered_rule ws x) symbols_from e) symbols_to k (e + (get_or (renumbered_rule ws x) symbols_to 0 - get_or (renumbered_rule ws x) symbols_from 0)) 0 d
    ∙ (get_or-set_other (renumbered_rule ws x) symbols_from k e 0 b ∙ get_or-set_other x rule_row k (rank (rule_stays ws) (get_or x rule_row 0)) 0 a)

-- symbols of ranges that lie in the table are whole rows
pub symbols_wide : (c : Counts) (ws t9 : List ℕ) (n : ℕ) → n * width symbols ≤ length t9 → (rows : List (List ℕ)) → ((i : ℕ) → i < length rows → get_or (get_or rows i []) symbols_to 0 ≤ n) → Wide (width symbols) (symbols_of c ws t9 rows)
unfolding symbols_of
symbols_wide c ws t9 n h [] a j l = absurd (omega arith)
symbols_wide c ws t9 n h (x ∷ rows) a j l = go (dec_lt j (size_of x)) (symbols_wide c ws t9 n h rows (λ i b. a (suc i) (omega arith)))
  where
    m : length (renumbered_symbols c ws t9 (get_or x symbols_from 0) (size_of x)) ≡ size_of x
    m = rows_length c ws t9 (get_or x symbols_from 0) (size_of x)

    go : Dec (j < size_of x) → Wide (width symbols) (symbols_of c ws t9 rows) → length (get_or (renumbered_symbols c ws t9 (get_or x symbols_from 0) (size_of x) ++ symbols_of c ws t9 rows) j []) ≡ width symbols
    go (yes k) f =
        let e = get_or-append (renumbered_symbols c ws t9 (get_or x symbols_from 0) (size_of x)) (symbols_of c ws t9 rows) [] j (omega (arith, m)) ∙ rows_at c ws t9 (get_or x symbols_from 0) (size_of x) j k in
        let b = a 0 (omega arith) in
        ap length e ∙ simp length-set (row_length (width symbols) t9 (get_or x symbols_from 0 + j) (omega arith))
    go (no k) f =
        let e : j ≡ length (renumbered_symbols c ws t9 (get_or x symbols_from 0) (size_of x)) + (j - size_of x) = omega (arith, m) in
        let q = ap (λ (i : ℕ). get_or (renumbered_symbols c ws t9 (get_or x symbols_from 0) (size_of x) ++ symbols_of c ws t9 rows) i []) e ∙ get_or-append-add (renumbered_symbols c ws t9 (get_or x symbols_from 0) (size_of x)) (symbols_of c ws t9 rows) (j - size_of x) [] in
        let z = simp length-append at l in
        ap length q ∙ f (j - size_of x) (omega (arith, m))

-- the symbols of one production more
pub symbols_snoc : (c : Counts) (ws t9 : List ℕ) (rows : List (List ℕ)) (x : List ℕ) → length (symbols_of c ws t9 (rows ++ (x ∷ []))) ≡ length (symbols_of c ws t9 rows) + size_of x
unfolding symbols_of
symbols_snoc c ws t9 [] x = let e = rows_length c ws t9 (get_or x symbols_from 0) (size_of x) in rw length-append (omega arith)
symbols_snoc c ws t9 (y ∷ rows) x = let e = symbols_snoc c ws t9 rows x in simp length-append (omega arith)

-- the new number by kind
module _ (c : Counts) (ws : List ℕ) (kind r : ℕ) where
  pub number_rule : kind ≡ 1 → new_number c ws kind r ≡ rank (rule_stays ws) r
  unfolding new_number
  number_rule e = rw (new_number, eq-eqb kind 1 e)

  pub number_token : (kind ≡ 1 → ⊥) → new_number c ws kind r ≡ rank (token_stays c ws) r
  unfolding new_number
  number_token e = rw (new_number, ne_eqb kind 1 e)
