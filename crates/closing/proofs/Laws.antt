-- Rows that stay close up: one law for each row read; where the loop ends it is the rows that stay and then zeros. What becomes of a row's number. Assumes nothing.
use Prim.Native.Nat.{ℕ, suc, ◌+◌, ◌*◌, ◌≤◌, ◌<◌}
use mathlib.Core.Path.{◌≡◌, refl, sym, ap, ◌∙◌}
use mathlib.Core.List.{List, [], ◌∷◌, ◌++◌, append_assoc, append-nil}
use mathlib.Core.Bool.{Bool, true, false}
use native.Mathlib.Omega.{arith}
use native.Mathlib.Numerals.{add-one}
use native.Mathlib.Nat.{suc-mul, mul-le-mul_right, zero-mul}
use lib.ListN.{length, get_or, set, take, drop, length-append, length-replicate}
use lib.Seq.{drop-drop, length-take-le, drop-set-lt, take_all, get_or-set_other}
use Rattle.tables.specs.Table.{put}
use Rattle.tables.specs.Rows.{row_at}
use Rattle.tables.proofs.Laws.{put_length, put_snoc}
use Rattle.tables.proofs.Rows.{row_length, row_cell, body_add}
use Rattle.closing.specs.Close.{kept_rows, rank, flat, table_of, moved, Step, step, zero_from, closed, Shut}

flat_append : (xs ys : List (List ℕ)) → flat (xs ++ ys) ≡ flat xs ++ flat ys
flat_append [] ys = refl
flat_append (x ∷ xs) ys = let e = flat_append xs ys in rw (e, append_assoc)

pub flat_snoc : (xs : List (List ℕ)) (x : List ℕ) → flat (xs ++ (x ∷ [])) ≡ flat xs ++ x
flat_snoc xs x = flat_append xs (x ∷ []) ∙ ap (λ (l : List ℕ). flat xs ++ l) (append-nil x)

pub drop_put : (vs t : List ℕ) (at k : ℕ) → at + length vs ≤ k → drop k (put t at vs) ≡ drop k t
drop_put [] t at k h = refl
drop_put (v ∷ vs) t at k h = drop_put vs (set t at v) (at + 1) k (omega arith) ∙ drop-set-lt k t at v (omega arith)

-- what is known of the next row
module _ (stays : ℕ → Bool) (w : ℕ) (t₀ : List ℕ) where
  pub kept_yes : (r : ℕ) → stays r ≡ true → kept_rows stays w (suc r) t₀ ≡ kept_rows stays w r t₀ ++ (row_at w t₀ r ∷ [])
  unfolding kept_rows
  kept_yes r e = rw (kept_rows, e)

  pub kept_no : (r : ℕ) → stays r ≡ false → kept_rows stays w (suc r) t₀ ≡ kept_rows stays w r t₀
  unfolding kept_rows
  kept_no r e = rw (kept_rows, e)

  pub rank_yes : (r : ℕ) → stays r ≡ true → rank stays (suc r) ≡ suc (rank stays r)
  unfolding rank
  rank_yes r e = rw (rank, e)

  pub rank_no : (r : ℕ) → stays r ≡ false → rank stays (suc r) ≡ rank stays r
  unfolding rank
  rank_no r e = rw (rank, e)

  -- nothing read yet;
  pub shut_none : Shut stays w t₀ 0 0 t₀
  unfolding kept_rows rank
  shut_none = record { count = refl; low = omega arith; size = refl; front = rw zero-mul; rest = refl }

  module _ (r m : ℕ) (t : List ℕ) (x : Shut stays w t₀ r m t) where
    rest_next : drop (suc r * w) t ≡ drop (suc r * w) t₀
    rest_next =
        let e : suc r * w ≡ r * w + w = suc-mul r w in
        rw e (sym (drop-drop w (r * w) t) ∙ (ap (λ (l : List ℕ). drop w l) x.rest ∙ drop-drop w (r * w) t₀))

    -- a row is passed over,
    shut_pass : stays r ≡ false → Shut stays w t₀ (suc r) m t
    shut_pass e =
        let c = x.count in
        let l = x.low in
        record { count = c ∙ sym (rank_no r e); low = omega arith; size = x.size; front = x.front ∙ ap flat (sym (kept_no r e)); rest = rest_next }

    -- or joins those that stay.
    shut_join : stays r ≡ true → r * w + w ≤ length t₀ → Shut stays w t₀ (suc r) (suc m) (moved w r m t)
    unfolding moved row_at
    shut_join e h =
        let l = x.low in
        let s = x.size in
        let n = mul-le-mul_right w l in
        let wide : length (row_at w t r) ≡ w = row_length w t r (omega arith) in
        let same : row_at w t r ≡ row_at w t₀ r = ap (λ (y : List ℕ). take w y) x.rest in
        let past : m * w + length (row_at w t r) ≤ suc r * w = rw (suc-mul r w) (omega arith) in
        record {
          count = ap suc x.count ∙ sym (rank_yes r e);
          low = omega arith;
          size = put_length (row_at w t r) t (m * w) ∙ s;
          front = body_add w m (row_at w t r) t wide (omega arith) ∙ (rw (x.front, same) (sym (flat_snoc (kept_rows stays w r t₀) (row_at w t₀ r))) ∙ ap flat (sym (kept_yes r e)));
          rest = drop_put (row_at w t r) t (m * w) (suc r * w) past ∙ rest_next;
        }

    -- so a row read is one step on
    pub shut_step : (b : Bool) → b ≡ stays r → r * w + w ≤ length t₀ → (o : Step) → o ≡ step w b r m t → Shut stays w t₀ (r + 1) o.count o.cells
    unfolding step
    shut_step true e h o q = rw (q, add-one r, add-one m) (shut_join (sym e) h)
    shut_step false e h o q = rw (q, add-one r) (shut_pass (sym e))

    -- and at the end the cells behind become zero
    pub shut_end : r * w ≤ length t₀ → record { count = m; cells = zero_from (m * w) t } ≡ closed stays w r t₀
    unfolding table_of
    shut_end h =
        let n = mul-le-mul_right w x.low in
        let s = x.size in
        let b : length (take (m * w) t) ≡ m * w = length-take-le (m * w) t (omega arith) in
        let f : length (flat (kept_rows stays w r t₀)) ≡ m * w = sym (ap length x.front) ∙ b in
        rw (x.front, f, x.size, x.count)

-- cells behind those that were written are as they were
get_put : (vs t : List ℕ) (at k : ℕ) → at + length vs ≤ k → get_or (put t at vs) k 0 ≡ get_or t k 0
get_put [] t at k h = refl
get_put (v ∷ vs) t at k h = get_put vs (set t at v) (at + 1) k (omega arith) ∙ get_or-set_other t at k v 0 (λ e. omega arith)

-- a row under way: the next cell is written
pub move_more : (w from b i : ℕ) (t₀ t : List ℕ) → b ≤ from * w → from * w + w ≤ length t₀ → i < w → t ≡ put t₀ b (take i (row_at w t₀ from)) → set t (b + i) (get_or t (from * w + i) 0) ≡ put t₀ b (take (i + 1) (row_at w t₀ from))
move_more w from b i t₀ t h k l e =
    let wide = row_length w t₀ from k in
    let short : length (take i (row_at w t₀ from)) ≡ i = length-take-le i (row_at w t₀ from) (omega arith) in
    let read : get_or t (from * w + i) 0 ≡ get_or (row_at w t₀ from) i 0 = ap (λ (l : List ℕ). get_or l (from * w + i) 0) e ∙ (get_put (take i (row_at w t₀ from)) t₀ b (from * w + i) (omega arith) ∙ sym (row_cell w t₀ from i l)) in
    rw (read, e) (sym (put_snoc (row_at w t₀ from) t₀ b i (omega arith)))

pub move_all : (w from to i : ℕ) (t : List ℕ) → from * w + w ≤ length t → w ≤ i → put t (to * w) (take i (row_at w t from)) ≡ moved w from to t
unfolding moved
move_all w from to i t h k = let wide = row_length w t from h in rw (take_all i (row_at w t from) (omega arith))

-- a row read
pub keep_no : (w : ℕ) (b : Bool) (from to : ℕ) (t : List ℕ) → b ≡ false → record { count = to; cells = t } ≡ step w b from to t
unfolding step
keep_no w b from to t e = rw e

pub keep_yes : (w : ℕ) (b : Bool) (from to : ℕ) (t u : List ℕ) → b ≡ true → u ≡ moved w from to t → record { count = to + 1; cells = u } ≡ step w b from to t
unfolding step
keep_yes w b from to t u e h = rw (e, h)

pub zero_length : (at : ℕ) (t : List ℕ) → at ≤ length t → length (zero_from at t) ≡ length t
zero_length at t h = let a : length (take at t) ≡ at = length-take-le at t h in rw (length-append, length-replicate) (omega arith)
