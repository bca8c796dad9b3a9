-- Rows under the tables' operations, once over the width and over what is asked of rows: a row added, a cell set, a table cleared; and the
-- rows as a list, and ranges that follow one another. Assumes nothing.
use Prim.Native.Nat.{ℕ, zero, suc, ◌+◌, ◌*◌, ◌-◌, ◌≤◌, ◌<◌}
use mathlib.Core.Path.{◌≡◌, refl, sym, ap, ◌∙◌}
use mathlib.Core.List.{List, [], ◌∷◌, ◌++◌}
use native.Mathlib.Omega.{arith}
use native.Mathlib.Numerals.{add-one}
use native.Mathlib.Decide.{dec_lt, ℕ_discrete}
use native.Mathlib.Nat.{suc-mul, mul-le-mul_right, zero-mul, sub-zero, add-zero}
use lib.ListN.{length, get_or, set, take, drop, replicate, length-append, length-drop, length-set, length-replicate, get_or-append}
use lib.Seq.{sets, sets-eq, take_at, drop_at, drop-drop, get_or_at, get_or-append-add, get_or-take, get_or-drop, length-take-le, ext_get_or, drop-set-add, drop-set-lt, take-set-lt, take-set-le}
use Rattle.tables.specs.Table.{put, cell, zeroed}
use Rattle.tables.specs.Rows.{Clean, row_at, rows_of, Rows, end_before, Chained}
use Rattle.tables.proofs.Laws.{put_length}

put_sets : (vs t : List ℕ) (at : ℕ) → put t at vs ≡ sets t at vs
put_sets [] t at = refl
put_sets (v ∷ vs) t at = put_sets vs (set t at v) (at + 1) ∙ ap (λ (i : ℕ). sets (set t at v) i vs) (add-one at)

-- the cells before, the new ones, and the cells behind
pub put_eq : (vs t : List ℕ) (at : ℕ) → at + length vs ≤ length t → put t at vs ≡ take at t ++ vs ++ drop (at + length vs) t
put_eq vs t at h = put_sets vs t at ∙ sets-eq vs t at h

pub drop_zeros : (k m : ℕ) → drop {A = ℕ} k (replicate m 0) ≡ replicate (m - k) 0
drop_zeros zero m = rw (sub-zero m)
drop_zeros (suc k) zero = let e : zero - suc k ≡ zero = omega arith in rw e
drop_zeros (suc k) (suc m) = let e : suc m - suc k ≡ m - k = omega arith in rw e (drop_zeros k m)

-- cells stored over zeros: those cells, and zeros behind them
pub put_zeros : (vs : List ℕ) (n : ℕ) → length vs ≤ n → put (replicate n 0) 0 vs ≡ vs ++ replicate (n - length vs) 0
put_zeros vs n h =
    let e : 0 + length vs ≡ length vs = omega arith in
    put_eq vs (replicate n 0) 0 (rw (length-replicate {A = ℕ} n 0, e) h) ∙ rw (e, drop_zeros)

-- two runs of cells stored one behind the other
pub sets_append : (l vs us : List ℕ) (i : ℕ) → sets l i (vs ++ us) ≡ sets (sets l i vs) (i + length vs) us
sets_append l [] us i = rw (add-zero i)
sets_append l (v ∷ vs) us i =
    let e : suc i + length vs ≡ i + suc (length vs) = omega arith in
    sets_append (set l i v) vs us (suc i) ∙ rw e

pub put_append : (vs us t : List ℕ) (at : ℕ) → put t at (vs ++ us) ≡ put (put t at vs) (at + length vs) us
put_append vs us t at = rw (put_sets (vs ++ us) t at, put_sets vs t at, put_sets us (sets t at vs) (at + length vs)) (sets_append t vs us at)

-- a row below the count ends below the count's cells
pub row_below : (w r n : ℕ) → r < n → r * w + w ≤ n * w
row_below w r n h = omega (arith, suc-mul r w, mul-le-mul_right w h)

module _ (w : ℕ) (t : List ℕ) (r : ℕ) where
  pub row_length : r * w + w ≤ length t → length (row_at w t r) ≡ w
  unfolding row_at
  row_length h = length-take-le w (drop (r * w) t) (rw length-drop (omega arith))

  pub row_cell : (k : ℕ) → k < w → get_or (row_at w t r) k 0 ≡ cell w t r k
  unfolding row_at
  row_cell k h = get_or-take w (drop (r * w) t) k 0 h ∙ get_or-drop (r * w) t k 0

  -- a row is known by its cells
  pub row_ext : r * w + w ≤ length t → (x : List ℕ) → length x ≡ w → ((k : ℕ) → k < w → cell w t r k ≡ get_or x k 0) → row_at w t r ≡ x
  row_ext h x wide e =
      let l = row_length h in
      ext_get_or 0 (row_at w t r) x (l ∙ sym wide) (λ k b. let c : k < w = omega arith in row_cell k c ∙ e k c)

-- a table of zeros has no rows
pub clean_zeroed : (w : ℕ) (t : List ℕ) → Clean w 0 (zeroed t)
clean_zeroed w t = record { zeros = rw (zero-mul w, sub-zero, length-replicate) }

-- row n is added
module _ (w n : ℕ) (row t : List ℕ) (wide : length row ≡ w) (fits : n * w + w ≤ length t) where
  whole : n * w + length row ≤ length t
  whole = omega arith

  before : length (take (n * w) t) ≡ n * w
  before = length-take-le (n * w) t (omega arith)

  upto : length (take (n * w) t ++ row) ≡ suc n * w
  upto = rw (suc-mul n w, length-append) (omega (arith, before))

  -- the rows' cells are those before, then the new row's
  pub body_add : take (suc n * w) (put t (n * w) row) ≡ take (n * w) t ++ row
  body_add = rw (put_eq row t (n * w) whole) (take_at _ _ _ upto)

  behind : drop (suc n * w) (put t (n * w) row) ≡ drop w (drop (n * w) t)
  behind =
      let e : drop (n * w + length row) t ≡ drop w (drop (n * w) t) = rw (wide, drop-drop) in
      rw (put_eq row t (n * w) whole) (drop_at (take (n * w) t ++ row) _ _ upto ∙ e)

  -- the cells past the rows stay zero
  pub clean_add : Clean w n t → Clean w (suc n) (put t (n * w) row)
  clean_add c =
      let e : length t - n * w - w ≡ length t - suc n * w = rw (suc-mul n w) (omega arith) in
      record { zeros = behind ∙ rw (c.zeros, drop_zeros, e, put_length) }

  -- a cell of the new row, and one of an earlier row
  pub cell_new : (k : ℕ) → k < w → cell w (put t (n * w) row) n k ≡ get_or row k 0
  cell_new k h =
      rw (put_eq row t (n * w) whole)
      (get_or-append (take (n * w) t ++ row) _ 0 (n * w + k) (rw upto (rw (suc-mul n w) (omega arith)))
      ∙ ap (λ (j : ℕ). get_or (take (n * w) t ++ row) (j + k) 0) (sym before) ∙ get_or-append-add (take (n * w) t) row k 0)

  pub cell_old : (r k : ℕ) → r < n → k < w → cell w (put t (n * w) row) r k ≡ cell w t r k
  cell_old r k h l =
      let i : r * w + k < n * w = omega (arith, row_below w r n h) in
      rw (put_eq row t (n * w) whole)
      (get_or-append (take (n * w) t ++ row) _ 0 (r * w + k) (rw upto (rw (suc-mul n w) (omega arith)))
      ∙ get_or-append (take (n * w) t) row 0 (r * w + k) (rw before i) ∙ get_or-take (n * w) t (r * w + k) 0 i)

  -- the new row, and an earlier one
  pub row_new : row_at w (put t (n * w) row) n ≡ row
  row_new = row_ext w (put t (n * w) row) n (rw put_length fits) row wide cell_new

  pub row_old : (r : ℕ) → r < n → row_at w (put t (n * w) row) r ≡ row_at w t r
  row_old r h =
      let b = row_below w r n h in
      row_ext w (put t (n * w) row) r (rw put_length (omega arith)) (row_at w t r) (row_length w t r (omega arith))
      (λ k c. cell_old r k h c ∙ sym (row_cell w t r k c))

  rows_before : (m : ℕ) → m ≤ n → rows_of w m (put t (n * w) row) ≡ rows_of w m t
  unfolding rows_of
  rows_before zero h = refl
  rows_before (suc m) h = let e = rows_before m (omega arith) in rw (e, row_old m (omega arith))

  -- the rows as a list
  pub rows_of_add : rows_of w (suc n) (put t (n * w) row) ≡ rows_of w n t ++ (row ∷ [])
  unfolding rows_of
  rows_of_add = rw (rows_before n (omega arith), row_new)

  end_before_lem : (to r : ℕ) → r ≤ n → end_before w to (put t (n * w) row) r ≡ end_before w to t r
  unfolding end_before
  end_before_lem to zero h = refl
  end_before_lem to (suc r) h = ap (λ (x : List ℕ). get_or x to 0) (row_old r (omega arith))

  -- a range that begins where the one before it ended
  pub chain_add : (from to e : ℕ) → Chained w from to n t e → get_or row from 0 ≡ e → e ≤ get_or row to 0 → Chained w from to (suc n) (put t (n * w) row) (get_or row to 0)
  unfolding end_before
  chain_add from to e C b o =
      record {
        begins = λ r h. at r h (dec_lt r n);
        onward = λ r h. on r h (dec_lt r n);
        last = ap (λ (x : List ℕ). get_or x to 0) row_new;
      }
    where
      at : (r : ℕ) → r < suc n → Dec (r < n) → get_or (row_at w (put t (n * w) row) r) from 0 ≡ end_before w to (put t (n * w) row) r
      at r h (yes k) = rw (row_old r k, end_before_lem to r (omega arith)) (C.begins r k)
      at r h (no k) = let q : r ≡ n = omega arith in rw (q, row_new, end_before_lem to n (omega arith)) (b ∙ sym C.last)

      on : (r : ℕ) → r < suc n → Dec (r < n) → get_or (row_at w (put t (n * w) row) r) from 0 ≤ get_or (row_at w (put t (n * w) row) r) to 0
      on r h (yes k) = rw (row_old r k) (C.onward r k)
      on r h (no k) = let q : r ≡ n = omega arith in rw (q, row_new) (omega arith)

-- the list has a row for each below the count
module _ (w : ℕ) (t : List ℕ) where
  pub rows_of_length : (n : ℕ) → length (rows_of w n t) ≡ n
  unfolding rows_of
  rows_of_length zero = refl
  rows_of_length (suc n) = let e = rows_of_length n in rw length-append (omega arith)

  pub rows_of_at : (n r : ℕ) → r < n → get_or (rows_of w n t) r [] ≡ row_at w t r
  unfolding rows_of
  rows_of_at zero r h = absurd (omega arith)
  rows_of_at (suc n) r h = go (dec_lt r n) (rows_of_at n r)
    where
      go : Dec (r < n) → (r < n → get_or (rows_of w n t) r [] ≡ row_at w t r) → get_or (rows_of w n t ++ (row_at w t n ∷ [])) r [] ≡ row_at w t r
      go (yes k) f = get_or-append (rows_of w n t) _ [] r (rw (rows_of_length n) k) ∙ f k
      go (no k) f = let e : r ≡ n = omega arith in rw e (get_or_at (rows_of w n t) (row_at w t n) [] [] n (rows_of_length n))

-- a cell of row r is set: that cell of the row changes, and no other row
module _ (w : ℕ) (t : List ℕ) (r k v : ℕ) (c : k < w) where
  pub row_set : row_at w (set t (r * w + k) v) r ≡ set (row_at w t r) k v
  unfolding row_at
  row_set = rw (drop-set-add (r * w) t k v, take-set-lt w (drop (r * w) t) k v c)

  pub row_else : (q : ℕ) → (q ≡ r → ⊥) → row_at w (set t (r * w + k) v) q ≡ row_at w t q
  unfolding row_at
  row_else q d = elim (dec_lt q r) [
    | yes h ↦
        let b = row_below w q r h in
        let e : r * w + k ≡ q * w + (r * w + k - q * w) = omega arith in
        rw (e, drop-set-add (q * w) t (r * w + k - q * w) v, take-set-le w (drop (q * w) t) (r * w + k - q * w) v (omega arith))
    | no h ↦
        let b = row_below w r q (omega arith) in
        rw (drop-set-lt (q * w) t (r * w + k) v (omega arith))
  ]

module _ {P : List ℕ → Type 0} {Q : List ℕ → List ℕ → Type 0} where
  pub rows_zeroed : (w : ℕ) (t : List ℕ) → Rows P Q w 0 (zeroed t)
  rows_zeroed w t =
      record {
        fits = rw zero-mul (omega arith);
        low = omega arith;
        clean = clean_zeroed w t;
        each = λ r h. absurd (omega arith);
        pairs = λ q r h k. absurd (omega arith);
      }

  -- a row is added that is good by itself and beside each earlier one
  pub rows_add : (w n : ℕ) (row t : List ℕ) → length row ≡ w → n * w + w ≤ length t → n < 4294967295 → Rows P Q w n t → P row → ((r : ℕ) → r < n → Q (row_at w t r) row) → Rows P Q w (n + 1) (put t (n * w) row)
  rows_add w n row t wide room small R p q =
      rw (add-one n)
      (record {
        fits = rw (put_length, suc-mul) (omega arith);
        low = omega arith;
        clean = clean_add w n row t wide room R.clean;
        each = λ r h. at r (dec_lt r n) h;
        pairs = λ i r l h. two i r (dec_lt r n) l h;
      })
    where
      new : row_at w (put t (n * w) row) n ≡ row
      new = row_new w n row t wide room

      old : (r : ℕ) → r < n → row_at w (put t (n * w) row) r ≡ row_at w t r
      old = row_old w n row t wide room

      at : (r : ℕ) → Dec (r < n) → r < suc n → P (row_at w (put t (n * w) row) r)
      at r (yes b) h = rw (old r b) (R.each r b)
      at r (no b) h = let e : r ≡ n = omega arith in rw (e, new) p

      two : (i r : ℕ) → Dec (r < n) → i < r → r < suc n → Q (row_at w (put t (n * w) row) i) (row_at w (put t (n * w) row) r)
      two i r (yes b) l h = rw (old i (omega arith), old r b) (R.pairs i r l b)
      two i r (no b) l h = let e : r ≡ n = omega arith in rw (e, new, old i (omega arith)) (q i (omega arith))

  -- one cell of a row is changed, in a way that keeps what is asked of rows
  pub rows_set : (w n r k v : ℕ) (t : List ℕ) → r < n → k < w → Rows P Q w n t
      → ((x : List ℕ) → length x ≡ w → P x → P (set x k v))
      → ((x y : List ℕ) → length x ≡ w → Q x y → Q (set x k v) y)
      → ((x y : List ℕ) → length y ≡ w → Q x y → Q x (set y k v))
      → Rows P Q w n (set t (r * w + k) v)
  rows_set w n r k v t b c R p q₁ q₂ =
      record {
        fits = rw length-set R.fits;
        low = R.low;
        clean = record { zeros = rw (drop-set-lt (n * w) t (r * w + k) v (omega (arith, row_below w r n b)), length-set) R.clean.zeros };
        each = λ i h. at i (ℕ_discrete i r) h;
        pairs = λ i j l h. two i j (ℕ_discrete i r) (ℕ_discrete j r) l h;
      }
    where
      long : length (row_at w t r) ≡ w
      long = row_length w t r (omega (arith, row_below w r n b, R.fits))

      at : (i : ℕ) → Dec (i ≡ r) → i < n → P (row_at w (set t (r * w + k) v) i)
      at i (yes e) h = rw (e, row_set w t r k v c) (p _ long (R.each r b))
      at i (no e) h = rw (row_else w t r k v c i e) (R.each i h)

      two : (i j : ℕ) → Dec (i ≡ r) → Dec (j ≡ r) → i < j → j < n → Q (row_at w (set t (r * w + k) v) i) (row_at w (set t (r * w + k) v) j)
      two i j (yes e) (yes f) l h = absurd (omega arith)
      two i j (yes e) (no f) l h = rw (row_else w t r k v c j f, e, row_set w t r k v c) (q₁ _ _ long (rw e at (R.pairs i j l h)))
      two i j (no e) (yes f) l h = rw (row_else w t r k v c i e, f, row_set w t r k v c) (q₂ _ _ long (rw f at (R.pairs i j l h)))
      two i j (no e) (no f) l h = rw (row_else w t r k v c i e, row_else w t r k v c j f) (R.pairs i j l h)

  -- what holds of rows for a reason that gives another
  pub rows_map : {P' : List ℕ → Type 0} {w n : ℕ} {t : List ℕ} → ((x : List ℕ) → P x → P' x) → Rows P Q w n t → Rows P' Q w n t
  rows_map f R = record { fits = R.fits; low = R.low; clean = R.clean; each = λ r h. f _ (R.each r h); pairs = R.pairs }

  pub rows_as : {w n n' : ℕ} {t t' : List ℕ} → n ≡ n' → t ≡ t' → Rows P Q w n t → Rows P Q w n' t'
  rows_as p q R = rw (← p, ← q) R
