-- Laws of the decoder's definitions: the rows of first bytes, one law for each way through `follow` and `decode`, where a code point ends. Assumes nothing.
use Rattle.std.specs.Prelude.{Option, Some, None}
use Prim.Native.Nat.{ℕ, zero, suc, ◌+◌, ◌-◌, ◌*◌, ◌≤◌, ◌<◌}
use mathlib.Core.Path.{◌≡◌, refl, sym, ◌∙◌}
use mathlib.Core.List.{List, [], ◌∷◌}
use mathlib.Core.Bool.{Bool, true, false, and-false}
use native.Mathlib.Omega.{arith}
use lib.ListN.{length, get_or, drop, drop_of_length-le, length-drop}
use lib.Dec.{leb}
use borrow.Author.Tests.{lt-ltb, le-ltb, le-leb, lt-leb, ne_eqb}
use Rattle.scan.proofs.Tuples.{some_2}
use Rattle.scan.specs.Scan.{within}
use Rattle.scan.proofs.Bytes.{drop_at}
use Rattle.utf8.specs.Utf8.{lead_of, follow, follow_at, begun, decode, decode_at, Decodes, cap, Fitting}
use Rattle.utf8.specs.declared.Lead.{Lead}
use Rattle.utf8.specs.declared.Lead.TheVariants.{One, More, Never}

module _ (a : ℕ) where
  pub one : a < 128 → One a ≡ lead_of a
  unfolding lead_of
  one h = rw (lt-ltb a 128 h, lead_of)

  pub none_low : 128 ≤ a → a < 194 → Never ≡ lead_of a
  unfolding lead_of
  none_low h k = rw (le-ltb a 128 h, lt-ltb a 194 k, lead_of)

  pub two : 194 ≤ a → a < 224 → More 1 128 191 (a - 192) ≡ lead_of a
  unfolding lead_of
  two h k = rw (le-ltb a 128 (omega arith), le-ltb a 194 h, lt-ltb a 224 k, lead_of)

  pub three_E0 : a ≡ 224 → More 2 160 191 0 ≡ lead_of a
  unfolding lead_of
  three_E0 e = rw e

  pub three_ED : a ≡ 237 → More 2 128 159 13 ≡ lead_of a
  unfolding lead_of
  three_ED e = rw e

  pub three : 224 < a → (a ≡ 237 → ⊥) → a < 240 → More 2 128 191 (a - 224) ≡ lead_of a
  unfolding lead_of
  three h f k =
      rw (le-ltb a 128 (omega arith), le-ltb a 194 (omega arith), le-ltb a 224 (omega arith), ne_eqb a 224 (λ e. omega arith), ne_eqb a 237 f, lt-ltb a 240 k, lead_of)

  pub four_F0 : a ≡ 240 → More 3 144 191 0 ≡ lead_of a
  unfolding lead_of
  four_F0 e = rw e

  pub four : 240 < a → a < 244 → More 3 128 191 (a - 240) ≡ lead_of a
  unfolding lead_of
  four h k =
      rw (le-ltb a 128 (omega arith), le-ltb a 194 (omega arith), le-ltb a 224 (omega arith), ne_eqb a 224 (λ e. omega arith), ne_eqb a 237 (λ e. omega arith), le-ltb a 240 (omega arith), ne_eqb a 240 (λ e. omega arith), lt-ltb a 244 k, lead_of)

  pub four_F4 : a ≡ 244 → More 3 128 143 4 ≡ lead_of a
  unfolding lead_of
  four_F4 e = rw e

  pub none_high : 244 < a → Never ≡ lead_of a
  unfolding lead_of
  none_high h =
      rw (le-ltb a 128 (omega arith), le-ltb a 194 (omega arith), le-ltb a 224 (omega arith), ne_eqb a 224 (λ e. omega arith), ne_eqb a 237 (λ e. omega arith), le-ltb a 240 (omega arith), ne_eqb a 240 (λ e. omega arith), le-ltb a 244 (omega arith), ne_eqb a 244 (λ e. omega arith), lead_of)

-- what is said of the answer, of its parts
pub fitting_more : (l : Lead) (n low high v : ℕ) → Fitting l → l ≡ More n low high v → (v < cap n) × (128 ≤ low) × (high ≤ 191)
fitting_more l n low high v h e = rw e at h

-- the bits still fit
pub cap_top : (n v : ℕ) → 0 < n → v < cap n → v < 32768
cap_top zero v p h = absurd (omega arith)
cap_top (suc zero) v p h = h
cap_top (suc (suc zero)) v p h = omega arith
cap_top (suc (suc (suc zero))) v p h = omega arith
cap_top (suc (suc (suc (suc n)))) v p h = absurd (omega arith)

pub cap_next : (n v x : ℕ) → 0 < n → v < cap n → x < 64 → v * 64 + x < cap (n - 1)
cap_next zero v x p h k = absurd (omega arith)
cap_next (suc zero) v x p h k = omega arith
cap_next (suc (suc zero)) v x p h k = omega arith
cap_next (suc (suc (suc zero))) v x p h k = omega arith
cap_next (suc (suc (suc (suc n)))) v x p h k = absurd (omega arith)

-- the loop over the following bytes
module _ (n low high v : ℕ) (s : List ℕ) (i : ℕ) (r : Option (ℕ × ℕ)) (inv : follow_at n low high v s i ≡ r) where
  more : (0 < n) → n ≡ suc (n - 1)
  more p = omega arith

  pub follow_done : n ≤ 0 → Some (v, i) ≡ r
  unfolding follow follow_at
  follow_done h = let e : n ≡ 0 = omega arith in rw e at inv

  pub follow_short : 0 < n → length s ≤ i → None ≡ r
  unfolding follow follow_at
  follow_short p h = rw (more p, drop_of_length-le s h) at inv

  pub follow_low : 0 < n → i < length s → get_or s i 0 < low → None ≡ r
  unfolding follow follow_at
  follow_low p h k = rw (more p, drop_at s i h, lt-leb low (get_or s i 0) k, follow) at inv

  pub follow_high : 0 < n → i < length s → high < get_or s i 0 → None ≡ r
  unfolding follow follow_at
  follow_high p h k = rw (more p, drop_at s i h, lt-leb (get_or s i 0) high k, and-false (leb low (get_or s i 0)), follow) at inv

  pub follow_on : 0 < n → i < length s → low ≤ get_or s i 0 → get_or s i 0 ≤ high → follow_at (n - 1) 128 191 (v * 64 + (get_or s i 0 - 128)) s (i + 1) ≡ r
  unfolding follow follow_at
  follow_on p h k l = rw (more p, drop_at s i h, le-leb low (get_or s i 0) k, le-leb (get_or s i 0) high l, follow) at inv

-- the first byte, and what it begins
module _ (s : List ℕ) (i : ℕ) where
  pub decode_end : length s ≤ i → None ≡ decode_at s i
  unfolding decode_at decode
  decode_end h = rw (drop_of_length-le s h)

  module _ (l : Lead) (h : i < length s) (q : l ≡ lead_of (get_or s i 0)) where
    pub decode_one : (p : ℕ) → l ≡ One p → Some (p, i + 1) ≡ decode_at s i
    unfolding decode_at decode begun
    decode_one p e = rw (drop_at s i h, sym q ∙ e)

    pub decode_more : (n low high v : ℕ) → l ≡ More n low high v → follow_at n low high v s (i + 1) ≡ decode_at s i
    unfolding decode_at decode begun follow_at
    decode_more n low high v e = rw (drop_at s i h, sym q ∙ e)

    pub decode_never : l ≡ Never → None ≡ decode_at s i
    unfolding decode_at decode begun
    decode_never e = rw (drop_at s i h, sym q ∙ e)

-- What is decoded ends behind where it begins, and within the source.
follow_inside : (n low high v : ℕ) (l : List ℕ) (i p j : ℕ) → follow n low high v l i ≡ Some (p, j) → (i ≤ j) × (j ≤ i + length l)
unfolding follow
follow_inside zero low high v l i p j e = let d = some_2 e in (omega arith, omega arith)
follow_inside (suc n) low high v [] i p j e = let z : ◌≡◌ {A = ℕ} 0 1 = cc in absurd (omega arith)
follow_inside (suc n) low high v (b ∷ bs) i p j e = go (follow_inside n 128 191 (v * 64 + (b - 128)) bs (i + 1) p j) (within low high b) e
  where
    go : (follow n 128 191 (v * 64 + (b - 128)) bs (i + 1) ≡ Some (p, j) → (i + 1 ≤ j) × (j ≤ i + 1 + length bs)) → (t : Bool) → ◌≡◌ {A = Option (ℕ × ℕ)} (elim t [ true ↦ follow n 128 191 (v * 64 + (b - 128)) bs (i + 1) | false ↦ None ]) (Some (p, j)) → (i ≤ j) × (j ≤ i + suc (length bs))
    go ih true d = let h = ih d in (omega arith, omega arith)
    go ih false d = let z : ◌≡◌ {A = ℕ} 0 1 = cc in absurd (omega arith)

begun_inside : (l : Lead) (bs : List ℕ) (i p j : ℕ) → begun l bs i ≡ Some (p, j) → (i < j) × (j ≤ i + suc (length bs))
unfolding begun
begun_inside (One a) bs i p j e = let d = some_2 e in (omega arith, omega arith)
begun_inside (More n low high v) bs i p j e = let h = follow_inside n low high v bs (i + 1) p j e in (omega arith, omega arith)
begun_inside Never bs i p j e = let z : ◌≡◌ {A = ℕ} 0 1 = cc in absurd (omega arith)

decode_span : (l : List ℕ) (i p j : ℕ) → decode l i ≡ Some (p, j) → (i < j) × (j ≤ i + length l)
unfolding decode
decode_span [] i p j e = let z : ◌≡◌ {A = ℕ} 0 1 = cc in absurd (omega arith)
decode_span (a ∷ bs) i p j e = begun_inside (lead_of a) bs i p j e

pub decode_past : (l : List ℕ) (i p j : ℕ) → decode l i ≡ Some (p, j) → i < j
decode_past l i p j e = (decode_span l i p j e).0

pub decode_inside : (s : List ℕ) (i : ℕ) → Decodes s i (decode_at s i)
unfolding decode_at
decode_inside s i = go (decode (drop i s) i) refl
  where
    go : (d : Option (ℕ × ℕ)) → decode (drop i s) i ≡ d → Decodes s i d
    go (Some (p, j)) e = let h = decode_span (drop i s) i p j e in (h.0, omega (arith, length-drop i s))
    go None e = tt

-- the same, of an answer that is known to be the definition's
pub decodes : (s : List ℕ) (i : ℕ) (d : Option (ℕ × ℕ)) → d ≡ decode_at s i → Decodes s i d
decodes s i d e = rw e (decode_inside s i)
