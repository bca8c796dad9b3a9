-- The first of the entries: it stands here, or the later ones are tried; and where a keyword lies. Assumes nothing.
use Prim.Native.Nat.{ℕ, ◌+◌, ◌≤◌}
use mathlib.Core.Path.{◌≡◌, refl, sym, ap}
use mathlib.Core.List.{List, [], ◌∷◌}
use mathlib.Core.Bool.{Bool, true, false, ◌&&◌, ◌||◌, and-eq-true_iff, or-false}
use native.Mathlib.Omega.{arith}
use lib.Dec.{eqb, ltb}
use lib.ListN.{length}
use borrow.Author.Tests.{ltb-true}
use Rattle.scan.specs.Scan.{starts_at}
use Rattle.scan.proofs.Bytes.{on_test, starts_fits}
use Rattle.keywords.specs.declared.Keyword.TheVariants.{NoKeyword}
use Rattle.keywords.specs.declared.Seen.{Seen}
use Rattle.keywords.specs.Keywords.{Entry, keywords, knows, first_of, seen_at, Sees}

-- `knows` as the code tests it: no `false` behind the last kind
abbrev tested : ℕ → List ℕ → Bool
tested kind [] = true
tested kind (k ∷ []) = eqb kind k
tested kind (k ∷ l ∷ ks) = eqb kind k || tested kind (l ∷ ks)

tested_knows : (kind : ℕ) (ks : List ℕ) → tested kind ks ≡ knows kind ks
tested_knows kind [] = refl
tested_knows kind (k ∷ []) = sym (or-false (eqb kind k))
tested_knows kind (k ∷ l ∷ ks) = ap (λ (b : Bool). eqb kind k || b) (tested_knows kind (l ∷ ks))

module _ (e : Entry) (es : List Entry) (kind : ℕ) (src : List ℕ) (at : ℕ) (b : Bool) (is : b ≡ starts_at e.word src at) where
  pub first_hit : (tested kind e.kinds && b) ≡ true → record { word = e.is; end = at + length e.word } ≡ first_of (e ∷ es) kind src at
  unfolding first_of
  first_hit h = rw (first_of, ← is, ← tested_knows kind e.kinds, h)

  pub first_miss : (tested kind e.kinds && b) ≡ false → first_of es kind src at ≡ first_of (e ∷ es) kind src at
  unfolding first_of
  first_miss h = rw (first_of, ← is, ← tested_knows kind e.kinds, h)

pub first_none : (kind : ℕ) (src : List ℕ) (at : ℕ) → record { word = NoKeyword; end = at } ≡ first_of [] kind src at
unfolding first_of
first_none kind src at = refl

-- each keyword has at least two bytes
abbrev long : List Entry → Bool
long [] = true
long (e ∷ es) = ltb 1 (length e.word) && long es

-- so that what is seen lies in the source, behind where it was sought
module _ (kind : ℕ) (src : List ℕ) (at : ℕ) (h : at ≤ length src) where
  first_sees : (es : List Entry) → long es ≡ true → Sees src at (first_of es kind src at)
  unfolding first_of
  first_sees [] l = record { onward = omega arith; inside = h; beyond = λ d. absurd (d refl) }
  first_sees (e ∷ es) l =
      let k = (and-eq-true_iff (ltb 1 (length e.word)) (long es)).0 l in
      let two = ltb-true 1 (length e.word) k.0 in
      on_test (Sees src at) (knows kind e.kinds && starts_at e.word src at) _ _
      (λ t.
      let f = starts_fits e.word src at ((and-eq-true_iff (knows kind e.kinds) _).0 t).1 (omega arith) in
      record { onward = omega arith; inside = f; beyond = λ d. omega arith })
      (λ t. first_sees es k.1)

  pub sees : Sees src at (seen_at kind src at)
  unfolding seen_at
  sees = first_sees keywords refl

  pub seen_placed : (r : Seen) → r ≡ seen_at kind src at → (r ≡ seen_at kind src at) × Sees src at r
  seen_placed r e = (e, rw e sees)
