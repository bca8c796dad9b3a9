-- Bytes counted by a test: the part grows by a byte at either end, parts add up, and what none and some mean. Assumes nothing.
use Prim.Native.Nat.{ℕ, zero, suc, ◌+◌, ◌-◌, ◌≤◌, ◌<◌}
use mathlib.Core.Path.{◌≡◌, refl, ◌∙◌}
use mathlib.Core.Bool.{Bool, true, false}
use mathlib.Core.List.{List, ◌∷◌}
use mathlib.Core.Logic.{◌⊎◌, inl, inr}
use native.Mathlib.Numerals.{add-one}
use native.Mathlib.Omega.{arith}
use native.Mathlib.Decide.{ℕ_discrete}
use lib.ListN.{length, get_or}
use lib.Seq.{slice, slice_empty, slice-cons}
use Rattle.scan.specs.Tally.{tally, tally_at}

module _ (p : ℕ → Bool) (s : List ℕ) where
  pub tally_none : (i : ℕ) → tally_at p s i i ≡ 0
  unfolding tally tally_at
  tally_none i = rw (slice_empty i s)

  module _ (i j : ℕ) (h : i < j) (l : j ≤ length s) where
    front : slice i j s ≡ get_or s i 0 ∷ slice (i + 1) j s
    front = rw add-one (slice-cons i j s 0 h l)

    -- the first byte counts,
    pub tally_hit : p (get_or s i 0) ≡ true → tally_at p s i j ≡ suc (tally_at p s (i + 1) j)
    unfolding tally tally_at
    tally_hit e = rw (front, e, tally)

    -- or does not
    pub tally_miss : p (get_or s i 0) ≡ false → tally_at p s i j ≡ tally_at p s (i + 1) j
    unfolding tally tally_at
    tally_miss e = rw (front, e, tally)

    pub tally_one : (tally_at p s i j ≡ suc (tally_at p s (i + 1) j)) ⊎ (tally_at p s i j ≡ tally_at p s (i + 1) j)
    tally_one = go (p (get_or s i 0)) refl
      where
        go : (b : Bool) → p (get_or s i 0) ≡ b → (tally_at p s i j ≡ suc (tally_at p s (i + 1) j)) ⊎ (tally_at p s i j ≡ tally_at p s (i + 1) j)
        go true e = inl (tally_hit e)
        go false e = inr (tally_miss e)

  -- two parts that follow one another, of m bytes the first
  split : (m i k : ℕ) → i + m ≤ k → k ≤ length s → tally_at p s i k ≡ tally_at p s i (i + m) + tally_at p s (i + m) k
  split zero i k h l = let z : i + 0 ≡ i = omega arith in rw (z, tally_none i) (omega arith)
  split (suc m) i k h l =
      let z : i + suc m ≡ i + 1 + m = omega arith in
      let r = split m (i + 1) k (omega arith) l in
      go (p (get_or s i 0)) refl (rw (← z) at r)
    where
      go : (b : Bool) → p (get_or s i 0) ≡ b → tally_at p s (i + 1) k ≡ tally_at p s (i + 1) (i + suc m) + tally_at p s (i + suc m) k → tally_at p s i k ≡ tally_at p s i (i + suc m) + tally_at p s (i + suc m) k
      go true e r = let a = tally_hit i k (omega arith) l e in let b = tally_hit i (i + suc m) (omega arith) (omega arith) e in omega arith
      go false e r = let a = tally_miss i k (omega arith) l e in let b = tally_miss i (i + suc m) (omega arith) (omega arith) e in omega arith

  pub tally_split : (i j k : ℕ) → i ≤ j → j ≤ k → k ≤ length s → tally_at p s i k ≡ tally_at p s i j + tally_at p s j k
  tally_split i j k g h l = let z : i + (j - i) ≡ j = omega arith in rw z at (split (j - i) i k (omega arith) l)

  -- the byte behind a part
  module _ (i j : ℕ) (h : i ≤ j) (l : j < length s) where
    pub tally_last : p (get_or s j 0) ≡ true → tally_at p s i (j + 1) ≡ tally_at p s i j + 1
    tally_last e = let a = tally_split i j (j + 1) h (omega arith) (omega arith) in let b = tally_hit j (j + 1) (omega arith) (omega arith) e in let c = tally_none (j + 1) in omega arith

    pub tally_skip : p (get_or s j 0) ≡ false → tally_at p s i (j + 1) ≡ tally_at p s i j
    tally_skip e = let a = tally_split i j (j + 1) h (omega arith) (omega arith) in let b = tally_miss j (j + 1) (omega arith) (omega arith) e in let c = tally_none (j + 1) in omega arith

  -- where none is counted, no byte of the part passes the test,
  none : (m i : ℕ) → i + m ≤ length s → tally_at p s i (i + m) ≡ 0 → (k : ℕ) → i ≤ k → k < i + m → p (get_or s k 0) ≡ false
  none zero i l e k g h = absurd (omega arith)
  none (suc m) i l e k g h =
      let z : i + suc m ≡ i + 1 + m = omega arith in
      go (p (get_or s i 0)) refl (λ f u. none m (i + 1) (omega arith) (rw z at f) k u (omega arith))
    where
      go : (b : Bool) → p (get_or s i 0) ≡ b → (tally_at p s (i + 1) (i + suc m) ≡ 0 → i + 1 ≤ k → p (get_or s k 0) ≡ false) → p (get_or s k 0) ≡ false
      go true d ih = let a = tally_hit i (i + suc m) (omega arith) l d in absurd (omega arith)
      go false d ih = let a = tally_miss i (i + suc m) (omega arith) l d in elim (ℕ_discrete k i) [ yes q ↦ rw q d | no q ↦ ih (omega arith) (omega arith) ]

  pub tally_zero : (i j : ℕ) → i ≤ j → j ≤ length s → tally_at p s i j ≡ 0 → (k : ℕ) → i ≤ k → k < j → p (get_or s k 0) ≡ false
  tally_zero i j h l e k g m = let z : i + (j - i) ≡ j = omega arith in none (j - i) i (omega arith) (rw z e) k g (omega arith)

  -- and conversely: where no byte passes, none is counted.
  all_miss : (m i : ℕ) → i + m ≤ length s → ((k : ℕ) → i ≤ k → k < i + m → p (get_or s k 0) ≡ false) → tally_at p s i (i + m) ≡ 0
  all_miss zero i l f = let z : i + 0 ≡ i = omega arith in rw z (tally_none i)
  all_miss (suc m) i l f =
      let z : i + suc m ≡ i + 1 + m = omega arith in
      let r = all_miss m (i + 1) (omega arith) (λ k u v. f k (omega arith) (omega arith)) in
      tally_miss i (i + suc m) (omega arith) l (f i (omega arith) (omega arith)) ∙ rw z r

  pub zero_tally : (i j : ℕ) → i ≤ j → j ≤ length s → ((k : ℕ) → i ≤ k → k < j → p (get_or s k 0) ≡ false) → tally_at p s i j ≡ 0
  zero_tally i j h l f = let z : i + (j - i) ≡ j = omega arith in rw z at (all_miss (j - i) i (omega arith) (λ k u v. f k u (omega arith)))

  -- Where one is counted, a byte of the part passes the test.
  some : (m i : ℕ) → i + m ≤ length s → 0 < tally_at p s i (i + m) → (k : ℕ) × (i ≤ k) × (k < i + m) × (p (get_or s k 0) ≡ true)
  some zero i l e = let z : i + 0 ≡ i = omega arith in let a = tally_none i in absurd (let q = rw z at e in omega arith)
  some (suc m) i l e =
      let z : i + suc m ≡ i + 1 + m = omega arith in
      go (p (get_or s i 0)) refl (λ f. some m (i + 1) (omega arith) (rw z at f))
    where
      go : (b : Bool) → p (get_or s i 0) ≡ b → (0 < tally_at p s (i + 1) (i + suc m) → (k : ℕ) × (i + 1 ≤ k) × (k < i + 1 + m) × (p (get_or s k 0) ≡ true)) → (k : ℕ) × (i ≤ k) × (k < i + suc m) × (p (get_or s k 0) ≡ true)
      go true d ih = (i, omega arith, omega arith, d)
      go false d ih =
          let a = tally_miss i (i + suc m) (omega arith) l d in
          let r = ih (omega arith) in
          let u = r.1 in
          let v = r.2 in
          (r.0, omega arith, omega arith, r.3)

  pub tally_some : (i j : ℕ) → i ≤ j → j ≤ length s → 0 < tally_at p s i j → (k : ℕ) × (i ≤ k) × (k < j) × (p (get_or s k 0) ≡ true)
  tally_some i j h l e = let z : i + (j - i) ≡ j = omega arith in rw z at (some (j - i) i (omega arith) (rw z e))
