-- Rows made of a table's own and laid in front of it, one behind the other: once over the width. Assumes nothing.
use Prim.Native.Nat.{ℕ, suc, ◌+◌, ◌*◌, ◌-◌, ◌≤◌, ◌<◌}
use mathlib.Core.Path.{◌≡◌, refl, sym, ap, ◌∙◌}
use mathlib.Core.List.{List, [], ◌∷◌, ◌++◌}
use native.Mathlib.Omega.{arith}
use native.Mathlib.Nat.{suc-mul, add-mul, mul-le-mul_right, zero-mul}
use lib.ListN.{length, get_or, set, take, drop, length-append, length-set}
use lib.Seq.{drop-drop, take-take, length-take-le, drop-set-lt, take-set-le, get_or-drop}
use Rattle.tables.specs.Table.{cell}
use Rattle.tables.specs.Rows.{row_at}
use Rattle.tables.proofs.Laws.{put_length}
use Rattle.tables.proofs.Rows.{row_length, row_set, body_add}
use Rattle.closing.specs.Close.{flat, table_of, moved, zero_from}
use Rattle.closing.proofs.Laws.{flat_snoc, drop_put}

-- Under way: the rows made so far stand in front, and the table's rows from `next` on are as they were.
pub record Laid (w : ℕ) (t₀ : List ℕ) (made : List (List ℕ)) (next : ℕ) (t : List ℕ) : Type 0 where
  pub low : length made ≤ next
  pub size : length t ≡ length t₀
  pub front : take (length made * w) t ≡ flat made
  pub rest : drop (next * w) t ≡ drop (next * w) t₀

-- t with changes in row r alone, which is x then
pub record Row (w r : ℕ) (t : List ℕ) (x : List ℕ) (u : List ℕ) : Type 0 where
  pub size : length u ≡ length t
  pub front : take (r * w) u ≡ take (r * w) t
  pub rest : drop (suc r * w) u ≡ drop (suc r * w) t
  pub is : row_at w u r ≡ x

pub row_same : (w r : ℕ) (t : List ℕ) → Row w r t (row_at w t r) t
row_same w r t = record { size = refl; front = refl; rest = refl; is = refl }

-- a cell of it is set
pub row_put : (w r k v : ℕ) (t x u : List ℕ) → k < w → Row w r t x u → Row w r t (set x k v) (set u (r * w + k) v)
row_put w r k v t x u h y =
    let e : suc r * w ≡ r * w + w = suc-mul r w in
    record {
      size = simp length-set y.size;
      front = take-set-le (r * w) u (r * w + k) v (omega arith) ∙ y.front;
      rest = drop-set-lt (suc r * w) u (r * w + k) v (omega arith) ∙ y.rest;
      is = row_set w u r k v h ∙ ap (λ (z : List ℕ). set z k v) y.is;
    }

module _ (w : ℕ) (t₀ : List ℕ) where
  pub laid_none : Laid w t₀ [] 0 t₀
  laid_none = record { low = omega arith; size = refl; front = rw zero-mul; rest = refl }

  module _ (made : List (List ℕ)) (next : ℕ) (t : List ℕ) (x : Laid w t₀ made next t) where
    -- rows are passed over,
    pub laid_on : (n : ℕ) → next ≤ n → Laid w t₀ made n t
    laid_on n h =
        let l = x.low in
        let e : n ≡ next + (n - next) = omega arith in
        let m : n * w ≡ next * w + (n - next) * w = ap (λ (k : ℕ). k * w) e ∙ add-mul next (n - next) w in
        record {
          low = omega arith;
          size = x.size;
          front = x.front;
          rest = rw m (sym (drop-drop ((n - next) * w) (next * w) t) ∙ (ap (λ (l : List ℕ). drop ((n - next) * w) l) x.rest ∙ drop-drop ((n - next) * w) (next * w) t₀));
        }

    -- cells that are not read yet are as they were,
    pub laid_cell : (k : ℕ) → cell w t next k ≡ cell w t₀ next k
    laid_cell k = sym (get_or-drop (next * w) t k 0) ∙ (ap (λ (l : List ℕ). get_or l k 0) x.rest ∙ get_or-drop (next * w) t₀ k 0)

    pub laid_row : row_at w t next ≡ row_at w t₀ next
    unfolding row_at
    laid_row = ap (λ (l : List ℕ). take w l) x.rest

    rest_next : drop (suc next * w) t ≡ drop (suc next * w) t₀
    rest_next =
        let e : suc next * w ≡ next * w + w = suc-mul next w in
        rw e (sym (drop-drop w (next * w) t) ∙ (ap (λ (l : List ℕ). drop w l) x.rest ∙ drop-drop w (next * w) t₀))

    -- and the next row, changed to y, joins those in front.
    pub laid_join : (y u : List ℕ) → next * w + w ≤ length t₀ → Row w next t y u → Laid w t₀ (made ++ (y ∷ [])) (suc next) (moved w next (length made) u)
    unfolding moved
    laid_join y u h r =
        let l = x.low in
        let s = x.size in
        let z = r.size in
        let n = mul-le-mul_right w l in
        let more : length (made ++ (y ∷ [])) ≡ suc (length made) = rw length-append (omega arith) in
        let wide : length (row_at w u next) ≡ w = row_length w u next (omega arith) in
        let past : length made * w + length (row_at w u next) ≤ suc next * w = rw (suc-mul next w) (omega arith) in
        let kept : take (length made * w) u ≡ flat made = sym (take-take (length made * w) (next * w) u n) ∙ (ap (λ (l : List ℕ). take (length made * w) l) r.front ∙ (take-take (length made * w) (next * w) t n ∙ x.front)) in
        record {
          low = omega arith;
          size = put_length (row_at w u next) u (length made * w) ∙ (z ∙ s);
          front = rw more (body_add w (length made) (row_at w u next) u wide (omega arith) ∙ (rw (kept, r.is) (sym (flat_snoc made y))));
          rest = drop_put (row_at w u next) u (length made * w) (suc next * w) past ∙ (r.rest ∙ rest_next);
        }

    -- At the end the cells behind become zero.
    pub laid_end : next * w ≤ length t₀ → zero_from (length made * w) t ≡ table_of (length t₀) made
    unfolding table_of
    laid_end h =
        let n = mul-le-mul_right w x.low in
        let s = x.size in
        let b : length (take (length made * w) t) ≡ length made * w = length-take-le (length made * w) t (omega arith) in
        let f : length (flat made) ≡ length made * w = sym (ap length x.front) ∙ b in
        rw (x.front, f, x.size)
