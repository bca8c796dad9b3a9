-- What the functions' proofs cite: where a cell lies, a row written cell by cell, two places read byte by byte, rows searched one by one.
-- Assumes nothing.
use Rattle.std.specs.Prelude.{Option, Some, None}
use Prim.Native.Nat.{ℕ, zero, suc, ◌+◌, ◌*◌, ◌/◌, ◌-◌, ◌≤◌, ◌<◌}
use mathlib.Core.Path.{◌≡◌, refl, sym, ap, ◌∙◌}
use mathlib.Core.List.{List, [], ◌∷◌, ◌++◌, append-nil}
use mathlib.Core.Bool.{Bool, cond, ◌&&◌, true, false, not, false≢true}
use mathlib.Core.Logic.{⊎_elim}
use native.Mathlib.Omega.{arith}
use native.Mathlib.Numerals.{add-one}
use native.Mathlib.Nat.{suc-mul, mul-le-mul, le-div_iff_mul-le, div-zero, min-le_left, min-le_right, le-min, add-zero}
use borrow.Author.Tests.{lt-ltb, le-ltb, ltb-true, not-true, not-false}
use lib.ListN.{length, get_or, set, take, drop, replicate, length-set, drop_of_length-le, get_or-eq_default}
use lib.Dec.{eqb}
use lib.Pointwise.{pointwise}
use Rattle.std.proofs.lemmas.List.{drop-take}
use Rattle.std.specs.List.{find, range_with_len}
use lib.Seq.{slice, set_out}
use Rattle.scan.specs.Table.{same}
use Rattle.scan.proofs.Bytes.{le_or_lt, within_true}
use Rattle.tables.specs.Layout.{unused, productions, symbols, repeats, bodies, row_place, posix_from, table_number}
use Rattle.tables.specs.Table.{cell, set_cell, put, room, Added, added, add_row, lies, same_part, has_name, first_row, find_name, flag, enter_token}

-- the product of two 32-bit numbers, so small that with a third one added it fits 64 bits
pub product_fits : (r w : ℕ) → r < 4294967296 → w < 4294967296 → r * w ≤ 18446744065119617025
product_fits r w h k = mul-le-mul {n₂ = 4294967295} {m₂ = 4294967295} (omega arith) (omega arith)

-- past the end there is nothing to read or to write
module _ (w r k : ℕ) (t : List ℕ) (h : length t ≤ r * w + k) where
  pub cell_past : 0 ≡ cell w t r k
  cell_past = sym (get_or-eq_default t 0 {n = r * w + k} h)

  pub set_past : (v : ℕ) → t ≡ set_cell w t r k v
  set_past v = sym (set_out t (r * w + k) v h)

-- all cells stored as zero
pub filled : (i : ℕ) (t : List ℕ) → i ≤ length t → length t ≤ i → replicate i 0 ++ drop i t ≡ replicate (length t) 0
filled i t h k =
    let e : i ≡ length t = omega arith in
    rw (drop_of_length-le t k, append-nil, e)

-- a whole free row lies in the table
pub row_in : (w n m : ℕ) → 0 < w → n < m / w → n * w + w ≤ m
row_in w n m h k = rw (← suc-mul n w) ((le-div_iff_mul-le h).0 k)

-- the cells stored one by one
pub put_length : (vs t : List ℕ) (at : ℕ) → length (put t at vs) ≡ length t
put_length [] t at = refl
put_length (v ∷ vs) t at = put_length vs (set t at v) (at + 1) ∙ length-set t at v

pub put_snoc : (row t : List ℕ) (at i : ℕ) → i < length row → put t at (take (i + 1) row) ≡ set (put t at (take i row)) (at + i) (get_or row i 0)
put_snoc row t at i h = rw (add-one i) (go row t at i h)
  where
    go : (row t : List ℕ) (at i : ℕ) → i < length row → put t at (take (suc i) row) ≡ set (put t at (take i row)) (at + i) (get_or row i 0)
    go [] t at i h = absurd (omega arith)
    go (v ∷ vs) t at zero h = rw (add-zero at)
    go (v ∷ vs) t at (suc i) h =
        let e : at + 1 + i ≡ at + suc i = omega arith in
        go vs (set t at v) (at + 1) i (omega arith) ∙ rw e

-- whether there is room, and what is added then
module _ (w n : ℕ) (t : List ℕ) where
  pub room_some : n < length t / w → n < 4294967295 → room w n t ≡ true
  unfolding room
  room_some h k = lt-ltb n _ (le-min h k)

  pub room_full : length t / w ≤ n → room w n t ≡ false
  unfolding room
  room_full h = le-ltb n _ (omega (arith, min-le_left (length t / w) 4294967295))

  pub room_last : 4294967295 ≤ n → room w n t ≡ false
  unfolding room
  room_last h = le-ltb n _ (omega (arith, min-le_right (length t / w) 4294967295))

  pub room_none : w ≡ 0 → room w n t ≡ false
  room_none h = room_full (rw (h, div-zero) (omega arith))

  pub room_counts : room w n t ≡ true → n < 4294967295
  unfolding room
  room_counts h = omega (arith, ltb-true n _ h, min-le_right (length t / w) 4294967295)

  pub room_fits : room w n t ≡ true → n * w + w ≤ length t
  unfolding room
  room_fits h =
      ⊎_elim (λ k. absurd (false≢true (sym (room_none (omega arith)) ∙ h)))
      (λ k. row_in w n (length t) k (omega (arith, ltb-true n _ h, min-le_left (length t / w) 4294967295)))
      (le_or_lt w 0)

module _ (n : ℕ) (row t : List ℕ) where
  pub add_yes : room (length row) n t ≡ true → record { ok = true; cells = put t (n * length row) row } ≡ add_row n row t
  unfolding add_row
  add_yes h = rw h

  pub add_no : room (length row) n t ≡ false → record { ok = false; cells = t } ≡ add_row n row t
  unfolding add_row
  add_no h = rw h

  -- a row that was added can be counted
  pub added_counts : (q : Bool) (cells : List ℕ) → record { ok = q; cells = cells } ≡ add_row n row t → q ≡ true → n < 4294967295
  unfolding add_row
  added_counts q cells e h = go (room (length row) n t) refl e
    where
      go : (b : Bool) → room (length row) n t ≡ b → record { ok = q; cells = cells } ≡ added b n row t → n < 4294967295
      go true f k = room_counts (length row) n t f
      go false f k = absurd (false≢true (sym (ap (λ (o : Added). o.ok) k) ∙ h))

-- two places, whether both lie in the source
module _ (src : List ℕ) (a b c d : ℕ) (p : Bool) (e : p ≡ lies src a b) where
  pub part_first : not p ≡ true → false ≡ same_part src a b c d
  unfolding same_part
  part_first h = rw (sym e ∙ not-true p h, same_part)

  module _ (h : not p ≡ false) (q : Bool) (f : q ≡ lies src c d) where
    pub part_second : not q ≡ true → false ≡ same_part src a b c d
    unfolding same_part
    part_second k = rw (sym e ∙ not-false p h, sym f ∙ not-true q k, same_part)

    pub part_both : not q ≡ false → (a ≤ b) × (c ≤ d) × (b ≤ length src) × (d ≤ length src) × (same (slice a b src) (slice c d src) ≡ same_part src a b c d)
    unfolding same_part
    part_both k =
        let x : lies src a b ≡ true = sym e ∙ not-false p h in
        let y : lies src c d ≡ true = sym f ∙ not-false q k in
        let u = within_true a (length src) b x in
        let v = within_true c (length src) d y in
        (u.0, v.0, u.1, v.1, rw (x, y, same_part))

-- bytes compared one by one
pub same_pointwise : (xs ys : List ℕ) → pointwise eqb xs ys ≡ same xs ys
unfolding same
same_pointwise [] [] = refl
same_pointwise [] (y ∷ ys) = refl
same_pointwise (x ∷ xs) [] = refl
same_pointwise (x ∷ xs) (y ∷ ys) = elim (eqb x y) as (λ v. (v && pointwise eqb xs ys) ≡ elim v [ true ↦ same xs ys | false ↦ false ]) [ true ↦ same_pointwise xs ys | false ↦ refl ]

-- a place as a part of the source
pub part_slice : (s : List ℕ) (a b : ℕ) → a ≤ b → take (b - a) (drop a s) ≡ slice a b s
part_slice s a b h =
    let e : a + (b - a) ≡ b = omega arith in
    sym (drop-take a (b - a) s) ∙ ap (λ n. drop a (take n s)) e

pub part_same : (src : List ℕ) (a b c d : ℕ) → a ≤ b → c ≤ d → pointwise eqb (take (b - a) (drop a src)) (take (d - c) (drop c src)) ≡ same (slice a b src) (slice c d src)
part_same src a b c d h k = rw (part_slice src a b h, part_slice src c d k) (same_pointwise _ _)

-- the rows from row r on
module _ (p : ℕ → Bool) (n r : ℕ) (o : Option ℕ) (inv : first_row p (n - r) r ≡ o) where
  pub first_hit : r < n → p r ≡ true → Some r ≡ o
  unfolding first_row
  first_hit h e =
      let s : n - r ≡ suc (n - (r + 1)) = omega arith in
      rw (s, e, first_row) at inv

  pub first_on : r < n → p r ≡ false → first_row p (n - (r + 1)) (r + 1) ≡ o
  unfolding first_row
  first_on h e =
      let s : n - r ≡ suc (n - (r + 1)) = omega arith in
      rw (s, e, first_row) at inv

  pub first_end : n ≤ r → None ≡ o
  unfolding first_row
  first_end h =
      let s : n - r ≡ 0 = omega arith in
      rw s at inv

-- the first row that a search over all numbers finds
pub find_first : (p : ℕ → Bool) (n r : ℕ) → find p (range_with_len r n) ≡ first_row p n r
unfolding first_row
find_first p zero r = refl
find_first p (suc n) r = elim (p r) as (λ v. cond v (Some r) (find p (range_with_len (r + 1) n)) ≡ elim v [ true ↦ Some r | false ↦ first_row p n (r + 1) ]) [ true ↦ refl | false ↦ find_first p n (r + 1) ]

-- a row's name is the place in its two cells
pub has_name_lem : (src : List ℕ) (w k : ℕ) (t : List ℕ) (a b r x y : ℕ) (q : Bool) → x ≡ cell w t r k → y ≡ cell w t r (k + 1) → q ≡ same_part src x y a b → (v : Bool) → q ≡ v → has_name src w k t a b r ≡ v
unfolding has_name
has_name_lem src w k t a b r x y q e f g v h = rw (← e, ← f) (sym g ∙ h)

-- a token's row: found, new, or without room
module _ (src : List ℕ) (n a b : ℕ) (d : Bool) (t : List ℕ) (f : Option ℕ) (e : f ≡ find_name src 3 0 n t a b) where
  pub enter_marked : (r : ℕ) → f ≡ Some r → d ≡ true → (cells : List ℕ) → cells ≡ set_cell 3 t r 2 1 → record { entered = Some n; cells = cells } ≡ enter_token src n a b d t
  unfolding enter_token
  enter_marked r g h cells k = rw (sym e ∙ g, h, k)

  pub enter_there : (r : ℕ) → f ≡ Some r → d ≡ false → record { entered = Some n; cells = t } ≡ enter_token src n a b d t
  unfolding enter_token
  enter_there r g h = rw (sym e ∙ g, h)

  module _ (g : f ≡ None) (mark : ℕ) (m : mark ≡ flag d) (q : Bool) (cells : List ℕ) (o : record { ok = q; cells = cells } ≡ add_row n (a ∷ b ∷ mark ∷ []) t) where
    pub enter_new : q ≡ true → record { entered = Some (n + 1); cells = cells } ≡ enter_token src n a b d t
    unfolding enter_token
    enter_new h = rw (sym e ∙ g, ← m, ← o, h)

    pub enter_full : q ≡ false → record { entered = None; cells = cells } ≡ enter_token src n a b d t
    unfolding enter_token
    enter_full h = rw (sym e ∙ g, ← m, ← o, h)

-- a row by itself: nothing past its end,
pub past_row : (row : List ℕ) (k : ℕ) → length row ≤ k → 0 ≡ get_or row k 0
past_row row k h = sym (get_or-eq_default row 0 {n = k} h)

-- and its place begins with its first cell but for five tables
pub place_first : (k : ℕ) → (k ≡ unused → ⊥) → (k ≡ productions → ⊥) → (k ≡ symbols → ⊥) → (k ≡ repeats → ⊥) → (k ≡ bodies → ⊥) → 0 ≡ row_place k
place_first zero a b c d e = refl
place_first (suc zero) a b c d e = refl
place_first (suc (suc zero)) a b c d e = refl
place_first (suc (suc (suc zero))) a b c d e = refl
place_first (suc (suc (suc (suc zero)))) a b c d e = refl
place_first (suc (suc (suc (suc (suc zero))))) a b c d e = absurd (a refl)
place_first (suc (suc (suc (suc (suc (suc zero)))))) a b c d e = refl
place_first (suc (suc (suc (suc (suc (suc (suc zero))))))) a b c d e = absurd (b refl)
place_first (suc (suc (suc (suc (suc (suc (suc (suc zero)))))))) a b c d e = absurd (c refl)
place_first (suc (suc (suc (suc (suc (suc (suc (suc (suc zero))))))))) a b c d e = absurd (d refl)
place_first (suc (suc (suc (suc (suc (suc (suc (suc (suc (suc zero)))))))))) a b c d e = refl
place_first (suc (suc (suc (suc (suc (suc (suc (suc (suc (suc (suc zero))))))))))) a b c d e = refl
place_first (suc (suc (suc (suc (suc (suc (suc (suc (suc (suc (suc (suc zero)))))))))))) a b c d e = absurd (e refl)
place_first (suc (suc (suc (suc (suc (suc (suc (suc (suc (suc (suc (suc (suc k))))))))))))) a b c d e = refl

-- the number of a table of the ten, and of one behind them
pub number_low : (k : ℕ) → k < posix_from → k + 1 ≡ table_number k
number_low k h = rw (lt-ltb k posix_from h, table_number)

pub number_high : (k : ℕ) → posix_from ≤ k → k + 5 ≡ table_number k
number_high k h = rw (le-ltb k posix_from h, table_number)
