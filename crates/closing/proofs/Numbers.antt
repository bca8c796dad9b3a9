-- What becomes of a row that stays: its new number is how many stay before it, and there it stands, the same as before. Assumes nothing.
use Prim.Native.Nat.{ℕ, zero, suc, ◌+◌, ◌*◌, ◌-◌, ◌≤◌, ◌<◌}
use mathlib.Core.Path.{◌≡◌, refl, sym, ap, ◌∙◌}
use mathlib.Core.List.{List, [], ◌∷◌, ◌++◌, append_assoc}
use mathlib.Core.Bool.{Bool, true, false}
use mathlib.Core.Logic.{⊎_elim}
use native.Mathlib.Omega.{arith}
use native.Mathlib.Decide.{dec_lt}
use native.Mathlib.Nat.{suc-mul, zero-mul, zero-add, add_comm, mul-le-mul_right}
use lib.ListN.{length, get_or, take, drop, replicate, length-append, length-replicate, get_or-append, take-append-drop}
use lib.Seq.{take_at, take-nil, drop_at, drop-drop, get_or_at, length-take-le}
use Rattle.scan.proofs.Bytes.{on_test, told, le_or_lt}
use Rattle.tables.specs.Rows.{row_at, rows_of, Clean, Rows}
use Rattle.tables.proofs.Rows.{row_length, row_below}
use Rattle.closing.specs.Close.{kept_rows, rank, flat, table_of, closed}
use Rattle.closing.proofs.Laws.{flat_snoc}

module _ (stays : ℕ → Bool) where
  -- numbers go up
  pub rank_most : (n : ℕ) → rank stays n ≤ n
  unfolding rank
  rank_most zero = omega arith
  rank_most (suc n) = let l = rank_most n in on_test (λ (k : ℕ). k ≤ suc n) (stays n) _ _ (λ e. omega arith) (λ e. omega arith)

  pub rank_up : (r n : ℕ) → r ≤ n → rank stays r ≤ rank stays n
  unfolding rank
  rank_up r zero h = let e : r ≡ 0 = omega arith in rw e (omega arith)
  rank_up r (suc n) h = go (dec_lt r (suc n)) (rank_up r n)
    where
      go : Dec (r < suc n) → (r ≤ n → rank stays r ≤ rank stays n) → rank stays r ≤ rank stays (suc n)
      go (yes k) f = let l = f (omega arith) in on_test (λ (m : ℕ). rank stays r ≤ m) (stays n) _ _ (λ e. omega arith) (λ e. omega arith)
      go (no k) f = let e : r ≡ suc n = omega arith in rw e (omega arith)

  rank_one : (r : ℕ) → stays r ≡ true → rank stays (suc r) ≡ suc (rank stays r)
  unfolding rank
  rank_one r e = rw (rank, e)

  pub rank_below : (r n : ℕ) → r < n → stays r ≡ true → rank stays r < rank stays n
  rank_below r n h e = let l = rank_up (suc r) n h in let k = rank_one r e in omega arith

  -- where all stay, nothing is renumbered
  pub rank_all : (n : ℕ) → ((r : ℕ) → r < n → stays r ≡ true) → rank stays n ≡ n
  unfolding rank
  rank_all zero a = refl
  rank_all (suc n) a = let e = rank_all n (λ r h. a r (omega arith)) in rw (rank, a n (omega arith), e)

  -- each new number is that of one old row
  pub record From (n i : ℕ) : Type 0 where
    pub row : ℕ
    pub there : row < n
    pub kept : stays row ≡ true
    pub same : rank stays row ≡ i

  pub rank_from : (n i : ℕ) → i < rank stays n → From n i
  unfolding rank
  rank_from zero i h = absurd (omega arith)
  rank_from (suc n) i h = go (stays n) refl h (rank_from n i)
    where
      go : (b : Bool) → stays n ≡ b → i < elim b [ true ↦ suc (rank stays n) | false ↦ rank stays n ] → (i < rank stays n → From n i) → From (suc n) i
      go true e k f = elim (dec_lt i (rank stays n)) [
        | yes l ↦ let x = f l in let t = x.there in record { row = x.row; there = omega arith; kept = x.kept; same = x.same }
        | no l ↦ record { row = n; there = omega arith; kept = e; same = omega arith }
      ]
      go false e k f = let x = f k in let t = x.there in record { row = x.row; there = omega arith; kept = x.kept; same = x.same }

  module _ (w : ℕ) (t : List ℕ) where
    pub kept_length : (n : ℕ) → length (kept_rows stays w n t) ≡ rank stays n
    unfolding kept_rows rank
    kept_length zero = refl
    kept_length (suc n) = go (stays n) (kept_length n)
      where
        go : (b : Bool) → length (kept_rows stays w n t) ≡ rank stays n → length {A = List ℕ} (elim b [ true ↦ kept_rows stays w n t ++ (row_at w t n ∷ []) | false ↦ kept_rows stays w n t ]) ≡ elim b [ true ↦ suc (rank stays n) | false ↦ rank stays n ]
        go true e = rw length-append (omega arith)
        go false e = e

    -- the row stands under its new number
    pub kept_at : (n r : ℕ) → r < n → stays r ≡ true → get_or (kept_rows stays w n t) (rank stays r) [] ≡ row_at w t r
    unfolding kept_rows
    kept_at zero r h s = absurd (omega arith)
    kept_at (suc n) r h s = go (stays n) refl (dec_lt r n) (λ l. kept_at n r l s)
      where
        go : (b : Bool) → stays n ≡ b → Dec (r < n) → (r < n → get_or (kept_rows stays w n t) (rank stays r) [] ≡ row_at w t r) → get_or (elim b [ true ↦ kept_rows stays w n t ++ (row_at w t n ∷ []) | false ↦ kept_rows stays w n t ]) (rank stays r) [] ≡ row_at w t r
        go true e (yes l) f = get_or-append (kept_rows stays w n t) _ [] (rank stays r) (rw (kept_length n) (rank_below r n l s)) ∙ f l
        go true e (no l) f = let q : r ≡ n = omega arith in rw q (get_or_at (kept_rows stays w n t) (row_at w t n) [] [] (rank stays n) (kept_length n))
        go false e (yes l) f = f l
        go false e (no l) f = let q : r ≡ n = omega arith in let p : stays n ≡ true = rw q at s in let z : ◌≡◌ {A = ℕ} 0 1 = cc in absurd (omega arith)

    pub kept_all : (n : ℕ) → ((r : ℕ) → r < n → stays r ≡ true) → kept_rows stays w n t ≡ rows_of w n t
    unfolding kept_rows rows_of
    kept_all zero a = refl
    kept_all (suc n) a = let e = kept_all n (λ r h. a r (omega arith)) in rw (kept_rows, a n (omega arith), e)

    kept_wide : (n : ℕ) → n * w ≤ length t → length (flat (kept_rows stays w n t)) ≡ rank stays n * w
    unfolding kept_rows rank
    kept_wide zero h = rw zero-mul
    kept_wide (suc n) h =
        let b = row_below w n (suc n) (omega arith) in
        go (stays n) (kept_wide n (omega arith)) (row_length w t n (omega arith))
      where
        go : (b : Bool) → length (flat (kept_rows stays w n t)) ≡ rank stays n * w → length (row_at w t n) ≡ w → length (flat (elim b [ true ↦ kept_rows stays w n t ++ (row_at w t n ∷ []) | false ↦ kept_rows stays w n t ])) ≡ elim b [ true ↦ suc (rank stays n) | false ↦ rank stays n ] * w
        go true e k = rw (flat_snoc (kept_rows stays w n t) (row_at w t n), length-append, suc-mul) (omega arith)
        go false e k = e

    -- the cells behind the rows that stay are zero
    pub closed_clean : (n : ℕ) → n * w ≤ length t → Clean w (rank stays n) (closed stays w n t).cells
    unfolding table_of
    closed_clean n h =
        let f = kept_wide n h in
        let l = mul-le-mul_right w (rank_most n) in
        let s : length (flat (kept_rows stays w n t) ++ replicate {A = ℕ} (length t - length (flat (kept_rows stays w n t))) 0) ≡ length t = rw (length-append, length-replicate) (omega arith) in
        record { zeros = rw (s, f) (drop_at (flat (kept_rows stays w n t)) _ (rank stays n * w) f) }

take_more : (m k : ℕ) (t : List ℕ) → take (m + k) t ≡ take m t ++ take k (drop m t)
take_more zero k t = ap (λ (i : ℕ). take i t) (zero-add k)
take_more (suc m) k [] = let e : suc m + k ≡ suc (m + k) = omega arith in rw (e, take-nil k)
take_more (suc m) k (x ∷ t) = let e : suc m + k ≡ suc (m + k) = omega arith in rw e (ap (λ (l : List ℕ). x ∷ l) (take_more m k t))

-- rows one behind the other are the table's cells
pub flat_rows : (w : ℕ) (t : List ℕ) (n : ℕ) → n * w ≤ length t → flat (rows_of w n t) ≡ take (n * w) t
unfolding rows_of row_at
flat_rows w t zero h = rw zero-mul
flat_rows w t (suc n) h =
    let e : suc n * w ≡ n * w + w = suc-mul n w in
    let f = flat_rows w t n (omega arith) in
    flat_snoc (rows_of w n t) (row_at w t n) ∙ rw (f, e) (sym (take_more (n * w) w t))

-- so that where all rows stay, nothing changes: pruning twice gives the tables of pruning once
pub closed_same : (stays : ℕ → Bool) (w n : ℕ) (t : List ℕ) → n * w ≤ length t → Clean w n t → ((r : ℕ) → r < n → stays r ≡ true) → closed stays w n t ≡ record { count = n; cells = t }
unfolding table_of
closed_same stays w n t h c a =
    let f : flat (kept_rows stays w n t) ≡ take (n * w) t = ap flat (kept_all stays w t n a) ∙ flat_rows w t n h in
    let l : length (take (n * w) t) ≡ n * w = length-take-le (n * w) t h in
    let z : replicate (length t - n * w) 0 ≡ drop (n * w) t = sym c.zeros in
    rw (rank_all stays n a, f, l, z, take-append-drop)

-- rows of one width, as a table, are its rows
abbrev pub Wide : ℕ → List (List ℕ) → Type 0
Wide w rows = (i : ℕ) → i < length rows → length (get_or rows i []) ≡ w

flat_row : (w : ℕ) (rows : List (List ℕ)) (tail : List ℕ) (i : ℕ) → Wide w rows → i < length rows → row_at w (flat rows ++ tail) i ≡ get_or rows i []
unfolding row_at
flat_row w [] tail i p h = absurd (omega arith)
flat_row w (x ∷ rows) tail zero p h = let e : length x ≡ w = p 0 (omega arith) in rw (zero-mul, append_assoc) (take_at x (flat rows ++ tail) w e)
flat_row w (x ∷ rows) tail (suc i) p h =
    let e : length x ≡ w = p 0 (omega arith) in
    let n : suc i * w ≡ w + i * w = suc-mul i w ∙ add_comm (i * w) w in
    let d : drop w (x ++ (flat rows ++ tail)) ≡ flat rows ++ tail = drop_at x (flat rows ++ tail) w e in
    let f = flat_row w rows tail i (λ j l. p (suc j) (omega arith)) (omega arith) in
    rw (n, append_assoc) (ap (λ (l : List ℕ). take w l) (sym (drop-drop (i * w) w (x ++ (flat rows ++ tail))) ∙ ap (λ (l : List ℕ). drop (i * w) l) d) ∙ f)

pub table_row : (size w : ℕ) (rows : List (List ℕ)) (i : ℕ) → Wide w rows → i < length rows → row_at w (table_of size rows) i ≡ get_or rows i []
unfolding table_of
table_row size w rows i p h = flat_row w rows _ i p h

pub kept_wide_each : (stays : ℕ → Bool) (w : ℕ) (t : List ℕ) (n : ℕ) → n * w ≤ length t → Wide w (kept_rows stays w n t)
kept_wide_each stays w t n h i l = go (rank_from stays n i (let e = kept_length stays w t n in omega arith))
  where
    go : From stays n i → length (get_or (kept_rows stays w n t) i []) ≡ w
    go x =
        let b = row_below w x.row n x.there in
        let e = kept_at stays w t n x.row x.there x.kept in
        let f : get_or (kept_rows stays w n t) i [] ≡ row_at w t x.row = ap (λ (j : ℕ). get_or (kept_rows stays w n t) j []) (sym x.same) ∙ e in
        ap length f ∙ row_length w t x.row (omega arith)

-- "Rows close up in their old order [..], and stored row numbers [..] follow": row r that stays is row `rank r` afterwards.
pub closed_row : (stays : ℕ → Bool) (w n : ℕ) (t : List ℕ) (r : ℕ) → n * w ≤ length t → r < n → stays r ≡ true → row_at w (closed stays w n t).cells (rank stays r) ≡ row_at w t r
closed_row stays w n t r h l s =
    table_row (length t) w (kept_rows stays w n t) (rank stays r) (kept_wide_each stays w t n h) (rw (kept_length stays w t n) (rank_below stays r n l s)) ∙ kept_at stays w t n r l s

-- no two rows that stay share a number
pub rank_inject : (stays : ℕ → Bool) (a b : ℕ) → stays a ≡ true → stays b ≡ true → rank stays a ≡ rank stays b → a ≡ b
rank_inject stays a b s t e =
    elim (dec_lt a b) [
      | yes h ↦ let l = rank_below stays a b h s in absurd (omega arith)
      | no h ↦ elim (dec_lt b a) [ yes k ↦ let l = rank_below stays b a k t in absurd (omega arith) | no k ↦ omega arith ]
    ]

-- a table of rows that fit is as long as it was
pub table_length : (size : ℕ) (rows : List (List ℕ)) → length (flat rows) ≤ size → length (table_of size rows) ≡ size
unfolding table_of
table_length size rows h = rw (length-append, length-replicate) (omega arith)

pub flat_length : (w : ℕ) (rows : List (List ℕ)) → Wide w rows → length (flat rows) ≡ length rows * w
flat_length w [] p = rw zero-mul
flat_length w (x ∷ rows) p =
    let e : length x ≡ w = p 0 (omega arith) in
    let f = flat_length w rows (λ i h. p (suc i) (omega arith)) in
    rw (length-append, suc-mul) (omega arith)

pub closed_length : (stays : ℕ → Bool) (w n : ℕ) (t : List ℕ) → n * w ≤ length t → length (closed stays w n t).cells ≡ length t
closed_length stays w n t h =
    let f = kept_wide stays w t n h in
    let l = mul-le-mul_right w (rank_most stays n) in
    table_length (length t) (kept_rows stays w n t) (omega arith)

pub closed_fits : (stays : ℕ → Bool) (w n : ℕ) (t : List ℕ) → n * w ≤ length t → rank stays n * w ≤ length (closed stays w n t).cells
closed_fits stays w n t h = let e = closed_length stays w n t h in let l = mul-le-mul_right w (rank_most stays n) in omega arith

-- and zero behind its rows
pub table_clean : (size w : ℕ) (rows : List (List ℕ)) → Wide w rows → length rows * w ≤ size → Clean w (length rows) (table_of size rows)
unfolding table_of
table_clean size w rows p h =
    let f = flat_length w rows p in
    let s : length (flat rows ++ replicate {A = ℕ} (size - length (flat rows)) 0) ≡ size = rw (length-append, length-replicate) (omega arith) in
    record { zeros = rw (s, f) (drop_at (flat rows) _ (length rows * w) f) }

-- what holds of the rows of a table holds of those that stay
module _ {P : List ℕ → Type 0} {Q : List ℕ → List ℕ → Type 0} (stays : ℕ → Bool) {w n : ℕ} {t : List ℕ} (x : Rows P Q w n t) where
  row_from : (r : ℕ) (f : From stays n r) → row_at w t f.row ≡ row_at w (closed stays w n t).cells r
  row_from r f = sym (ap (λ (j : ℕ). row_at w (closed stays w n t).cells j) (sym f.same) ∙ closed_row stays w n t f.row x.fits f.there f.kept)

  pub closed_rows : Rows P Q w (rank stays n) (closed stays w n t).cells
  closed_rows =
      record {
        fits = closed_fits stays w n t x.fits;
        low = let a = rank_most stays n in let b = x.low in omega arith;
        clean = closed_clean stays w t n x.fits;
        each = λ r h. one r (rank_from stays n r h);
        pairs = λ q r l h. two q r l (rank_from stays n q (omega arith)) (rank_from stays n r h);
      }
    where
      one : (r : ℕ) → From stays n r → P (row_at w (closed stays w n t).cells r)
      one r f = told P (row_from r f) (x.each f.row f.there)

      two : (q r : ℕ) → q < r → From stays n q → From stays n r → Q (row_at w (closed stays w n t).cells q) (row_at w (closed stays w n t).cells r)
      two q r l e f =
          let h : e.row < f.row = ⊎_elim (λ k. let up = rank_up stays f.row e.row k in let a = e.same in let b = f.same in absurd (omega arith)) (λ k. k) (le_or_lt f.row e.row) in
          told (λ (y : List ℕ). Q (row_at w (closed stays w n t).cells q) y) (row_from r f)
          (told (λ (y : List ℕ). Q y (row_at w t f.row)) (row_from q e) (x.pairs e.row f.row h f.there))
