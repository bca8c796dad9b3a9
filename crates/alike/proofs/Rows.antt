-- What the operations on tables do to two tables that are alike. Assumes nothing.
use Rattle.std.specs.Prelude.{Option, Some}
use Prim.Native.Nat.{ℕ, zero, suc, ◌+◌, ◌*◌, ◌≤◌, ◌<◌}
use mathlib.Core.Path.{◌≡◌, refl, sym, ◌∙◌, ap₂}
use mathlib.Core.List.{List, [], ◌∷◌}
use mathlib.Core.Bool.{Bool, true, false}
use native.Mathlib.Decide.{ℕ_discrete}
use native.Mathlib.Omega.{arith}
use native.Mathlib.Numerals.{add-one}
use native.Mathlib.Nat.{suc-mul}
use lib.ListN.{length, get_or, length-set, set}
use lib.Seq.{get_or-set_other, get_or-set_same}
use Rattle.scan.specs.Table.{same}
use Rattle.scan.proofs.Bytes.{within_yes}
use Rattle.tables.specs.Table.{cell, put, same_part, has_name, first_row, find_name}
use Rattle.tables.specs.Rows.{row_at}
use Rattle.tables.proofs.Laws.{put_length}
use Rattle.tables.proofs.Rows.{row_cell, row_new, row_old, row_set, row_else, row_below, row_length}
use Rattle.tables.specs.Layout.{tokens}
use Rattle.alike.specs.Like.{Same, Field, num, text, Fields, Alike, Table}

module _ (src out : List ℕ) where
  -- two places that hold the same bytes as another two are told apart or not alike
  part_like : (a b c d : ℕ) → Same src out a b c d → (e f g h : ℕ) → Same src out e f g h → same_part src a b e f ≡ same_part out c d g h
  unfolding same_part
  part_like a b c d x e f g h y =
      rw (within_yes a (length src) b x.here.0 x.here.1, within_yes e (length src) f y.here.0 y.here.1, within_yes c (length out) d x.there.0 x.there.1, within_yes g (length out) h y.there.0 y.there.1, same_part)
      (ap₂ same x.bytes y.bytes)

  first_like : (p q : ℕ → Bool) (n i : ℕ) → ((r : ℕ) → r < i + n → p r ≡ q r) → first_row p n i ≡ first_row q n i
  unfolding first_row
  first_like p q zero i h = refl
  first_like p q (suc n) i h = ap₂ (λ (c : Bool) (d : Option ℕ). elim c [ true ↦ Some i | false ↦ d ]) (h i (omega arith)) (first_like p q n (i + 1) (λ r l. h r (omega arith)))

  -- a search for the same bytes gives the same row, where the names of the rows are alike
  pub find_like : (w k n : ℕ) (t u : List ℕ) → k + 1 < w → ((r : ℕ) → r < n → Same src out (cell w t r k) (cell w t r (k + 1)) (cell w u r k) (cell w u r (k + 1)))
      → (a b c d : ℕ) → Same src out a b c d → find_name src w k n t a b ≡ find_name out w k n u c d
  unfolding find_name has_name
  find_like w k n t u h names a b c d x = first_like _ _ n 0 (λ r l. part_like _ _ _ _ (names r (omega arith)) a b c d x)

  -- a row more
  pub add_like : (fs : List Field) (w n : ℕ) (t u row row' : List ℕ) → length row ≡ w → length row' ≡ w → n * w + w ≤ length t
      → Alike src out fs w n t u → Fields src out fs row row' → Alike src out fs w (n + 1) (put t (n * w) row) (put u (n * w) row')
  add_like fs w n t u row row' e f h a x =
      let l = a.long in
      record {
        long = put_length row t (n * w) ∙ l ∙ sym (put_length row' u (n * w));
        fits = rw (put_length, add-one, suc-mul) (omega arith);
        rows = λ r k. elim (ℕ_discrete r n) [
          | yes q ↦ rw (q, row_new w n row t e h, row_new w n row' u f (omega arith)) x
          | no q ↦ rw (row_old w n row t e h r (omega arith), row_old w n row' u f (omega arith) r (omega arith)) (a.rows r (omega arith))
        ];
      }

  -- a token's row is marked as declared
  set_fields : (x y : List ℕ) → length x ≡ 3 → length y ≡ 3 → Fields src out (text 0 ∷ num 2 ∷ []) x y → Fields src out (text 0 ∷ num 2 ∷ []) (set x 2 1) (set y 2 1)
  set_fields x y e f h = (
    rw (get_or-set_other x 2 0 1 0 (omega arith), get_or-set_other x 2 1 1 0 (omega arith), get_or-set_other y 2 0 1 0 (omega arith), get_or-set_other y 2 1 1 0 (omega arith)) h.0,
    (get_or-set_same x 2 1 0 (omega arith) ∙ sym (get_or-set_same y 2 1 0 (omega arith)), tt),
  )

  pub mark_like : (n r : ℕ) (t u : List ℕ) → r < n → Table src out tokens n t u → Table src out tokens n (set t (r * 3 + 2) 1) (set u (r * 3 + 2) 1)
  mark_like n r t u h a =
      let l = a.long in
      let f = a.fits in
      let b = row_below 3 r n h in
      record {
        long = length-set t (r * 3 + 2) 1 ∙ l ∙ sym (length-set u (r * 3 + 2) 1);
        fits = rw length-set f;
        rows = λ q k. elim (ℕ_discrete q r) [
          | yes e ↦ rw (e, row_set 3 t r 2 1 (omega arith), row_set 3 u r 2 1 (omega arith)) (set_fields (row_at 3 t r) (row_at 3 u r) (row_length 3 t r (omega arith)) (row_length 3 u r (omega arith)) (a.rows r h))
          | no e ↦ rw (row_else 3 t r 2 1 (omega arith) q e, row_else 3 u r 2 1 (omega arith) q e) (a.rows q k)
        ];
      }

  -- the names of rows that are alike
  pub names_like : (fs : List Field) (w k n : ℕ) (t u : List ℕ) → k + 1 < w → Alike src out fs w n t u
      → ((x y : List ℕ) → Fields src out fs x y → Same src out (get_or x k 0) (get_or x (k + 1) 0) (get_or y k 0) (get_or y (k + 1) 0))
      → (r : ℕ) → r < n → Same src out (cell w t r k) (cell w t r (k + 1)) (cell w u r k) (cell w u r (k + 1))
  names_like fs w k n t u h a name r l =
      rw (row_cell w t r k (omega arith), row_cell w t r (k + 1) h, row_cell w u r k (omega arith), row_cell w u r (k + 1) h) at (name _ _ (a.rows r l))
