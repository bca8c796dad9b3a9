-- One block: what its number and its check are read from, and "one altered byte anywhere is refused". A byte changes its word by at most 255 times 256, which is
-- less than 65,535: so the first sum changes; a byte of the check is held against sums that did not change. Assumes nothing.
use Prim.Native.Nat.{ℕ, zero, suc, ◌+◌, ◌*◌, ◌/◌, ◌%◌, ◌-◌, ◌≤◌, ◌<◌}
use mathlib.Core.Path.{◌≡◌, refl, sym, ap, ◌∙◌}
use mathlib.Core.List.{List, [], ◌∷◌}
use mathlib.Core.Bool.{true, false, not-eq-not}
use mathlib.Core.Logic.{◌↔◌, ◌⊎◌, inl, inr, ⊎_elim}
use native.Mathlib.Omega.{arith}
use native.Mathlib.Decide.{dec_lt, ℕ_discrete}
use native.Mathlib.Nat.{add-zero}
use lib.ListN.{length, get_or, set}
use lib.Seq.{get_or-set_same, get_or-set_other}
use Rattle.tables.proofs.Tells.{both_iff, eq_iff}
use Rattle.blocks.specs.declared.Sums.{Sums}
use Rattle.blocks.specs.Blocks.{bytes_of, word_in, add_word, sums_from, sums_of, pair_at, ok_at}
use Rattle.blocks.proofs.Content.{number_byte}

-- ---- lists that have the same bytes from index a up to index b

abbrev pub Same : List ℕ → List ℕ → ℕ → ℕ → Type 0
Same s t a b = (i : ℕ) → a ≤ i → i < b → get_or s i 0 ≡ get_or t i 0

pub set_same : (s : List ℕ) (k v a b : ℕ) → (a ≤ k → k < b → ⊥) → Same (set s k v) s a b
set_same s k v a b d i h l = get_or-set_other s k i v 0 (λ e. d (omega arith) (omega arith))

-- each byte is the one that was set, or as it was
pub set_each : (P : ℕ → Type 0) (s : List ℕ) (k v i : ℕ) → P v → P (get_or s i 0) → P (get_or (set s k v) i 0)
set_each P [] k v i p q = q
set_each P (x ∷ s) zero v zero p q = p
set_each P (x ∷ s) zero v (suc i) p q = q
set_each P (x ∷ s) (suc k) v zero p q = q
set_each P (x ∷ s) (suc k) v (suc i) p q = set_each P s k v i p q

pub number_same : (s t : List ℕ) (at : ℕ) → Same s t at (at + 4) → word_in s at ≡ word_in t at
unfolding word_in
number_same s t at d = rw (d at (omega arith) (omega arith), d (at + 1) (omega arith) (omega arith), d (at + 2) (omega arith) (omega arith), d (at + 3) (omega arith) (omega arith))

-- and back: a number tells its bytes
pub number_one : (s t : List ℕ) (at : ℕ) → ((i : ℕ) → get_or s i 0 < 256) → ((i : ℕ) → get_or t i 0 < 256) → word_in s at ≡ word_in t at → Same s t at (at + 4)
number_one s t at p q e i h l =
    let n : at + (i - at) ≡ i = omega arith in
    rw n at (sym (number_byte s at p (i - at) (omega arith)) ∙ ap (λ (v : ℕ). get_or (bytes_of v) (i - at) 0) e ∙ number_byte t at q (i - at) (omega arith))

sums_from_lem : (n : ℕ) (s t : List ℕ) (at : ℕ) (c : Sums) → Same s t at (at + 2 * n) → sums_from n s at c ≡ sums_from n t at c
unfolding sums_from
sums_from_lem zero s t at c d = refl
sums_from_lem (suc n) s t at c d = rw (d at (omega arith) (omega arith), d (at + 1) (omega arith) (omega arith)) (sums_from_lem n s t (at + 2) _ (λ i h l. d i (omega arith) (omega arith)))

pub sums_same : (s t : List ℕ) (at : ℕ) → Same s t at (at + 508) → sums_of s at ≡ sums_of t at
unfolding sums_of
sums_same s t at d = sums_from_lem 254 s t at _ d

pub ok_same : (s t : List ℕ) (at : ℕ) → Same s t at (at + 512) → ok_at s at ≡ ok_at t at
unfolding ok_at
ok_same s t at d =
    let e = sums_same s t at (λ i h l. d i h (omega arith)) in
    rw (e, d (at + 508) (omega arith) (omega arith), d (at + 508 + 1) (omega arith) (omega arith), d (at + 510) (omega arith) (omega arith), d (at + 510 + 1) (omega arith) (omega arith))

-- ---- the check

sums_below : (n : ℕ) (s : List ℕ) (at : ℕ) (c : Sums) → c.first < 65535 → c.second < 65535 → ((sums_from n s at c).first < 65535) × ((sums_from n s at c).second < 65535)
unfolding sums_from
sums_below zero s at c h k = (h, k)
sums_below (suc n) s at c h k = sums_below n s (at + 2) (add_word c (get_or s at 0) (get_or s (at + 1) 0)) (omega arith) (omega arith)

-- the sums are remainders
pub sums_low : (s : List ℕ) (at : ℕ) → ((sums_of s at).first < 65535) × ((sums_of s at).second < 65535)
unfolding sums_of
sums_low s at = sums_below 254 s at _ (omega arith) (omega arith)

-- what a right check says,
pub ok_iff : (s : List ℕ) (at : ℕ) → (ok_at s at ≡ true) ↔ ((pair_at s (at + 508) ≡ (sums_of s at).first) × (pair_at s (at + 510) ≡ (sums_of s at).second))
unfolding ok_at
ok_iff s at = both_iff (eq_iff (pair_at s (at + 508)) (sums_of s at).first) (eq_iff (pair_at s (at + 510)) (sums_of s at).second)

-- and its four bytes
abbrev pub check_of : Sums → List ℕ
check_of c = c.first % 256 ∷ c.first / 256 ∷ c.second % 256 ∷ c.second / 256 ∷ []

pub check_byte : (s : List ℕ) (at : ℕ) → ((i : ℕ) → get_or s i 0 < 256) → ok_at s at ≡ true → (j : ℕ) → j < 4 → get_or s (at + 508 + j) 0 ≡ get_or (check_of (sums_of s at)) j 0
check_byte s at low ok j h = go j h
  where
    first : pair_at s (at + 508) ≡ (sums_of s at).first
    first = ((ok_iff s at).0 ok).0

    second : pair_at s (at + 510) ≡ (sums_of s at).second
    second = ((ok_iff s at).0 ok).1

    go : (j : ℕ) → j < 4 → get_or s (at + 508 + j) 0 ≡ get_or (check_of (sums_of s at)) j 0
    go zero h = rw (add-zero (at + 508)) (omega (arith, first, low (at + 508), low (at + 508 + 1)))
    go (suc zero) h = omega (arith, first, low (at + 508), low (at + 508 + 1))
    go (suc (suc zero)) h = let e : at + 508 + 2 ≡ at + 510 = omega arith in rw e (omega (arith, second, low (at + 510), low (at + 510 + 1)))
    go (suc (suc (suc zero))) h = let e : at + 508 + 3 ≡ at + 510 + 1 = omega arith in rw e (omega (arith, second, low (at + 510), low (at + 510 + 1)))
    go (suc (suc (suc (suc j)))) h = absurd (omega arith)

-- which are known where the sums are
pub check_one : (s t : List ℕ) (at : ℕ) → ((i : ℕ) → get_or s i 0 < 256) → ((i : ℕ) → get_or t i 0 < 256) → ok_at s at ≡ true → ok_at t at ≡ true → Same s t at (at + 508) → Same s t (at + 508) (at + 512)
check_one s t at p q f g d i h l =
    let n : at + 508 + (i - (at + 508)) ≡ i = omega arith in
    rw n at (check_byte s at p f (i - (at + 508)) (omega arith) ∙ ap (λ (c : Sums). get_or (check_of c) (i - (at + 508)) 0) (sums_same s t at d) ∙ sym (check_byte t at q g (i - (at + 508)) (omega arith)))

-- ---- one altered byte

-- remainders of two numbers that are not far apart differ
near : (x y : ℕ) → x % 65535 ≡ y % 65535 → x < y → y < x + 65535 → ⊥
near x y e h k = omega arith

-- the words' total, of which the first sum is the remainder
unfoldable total : ℕ → List ℕ → ℕ → ℕ
total zero s at = 0
total (suc n) s at = get_or s at 0 + 256 * get_or s (at + 1) 0 + total n s (at + 2)

total_is : (n : ℕ) (s : List ℕ) (at : ℕ) (c : Sums) → (sums_from n s at c).first % 65535 ≡ (c.first + total n s at) % 65535
unfolding sums_from total
total_is zero s at c = let z : c.first + 0 ≡ c.first = omega arith in ap (λ (k : ℕ). k % 65535) (sym z)
total_is (suc n) s at c = total_is n s (at + 2) (add_word c (get_or s at 0) (get_or s (at + 1) 0)) ∙ omega arith

first_is : (s : List ℕ) (at : ℕ) → (sums_of s at).first ≡ (1 + total 254 s at) % 65535
unfolding sums_of
first_is s at = let l = (sums_low s at).0 in let e = total_is 254 s at (record { first = 1; second = 0 }) in omega arith

total_same : (n : ℕ) (s t : List ℕ) (at : ℕ) → Same s t at (at + 2 * n) → total n s at ≡ total n t at
unfolding total
total_same zero s t at d = refl
total_same (suc n) s t at d =
    let e = total_same n s t (at + 2) (λ i h l. d i (omega arith) (omega arith)) in
    rw (d at (omega arith) (omega arith), d (at + 1) (omega arith) (omega arith), e)

module _ (s : List ℕ) (k v : ℕ) (inside : k < length s) where
  byte_new : (i : ℕ) → k ≡ i → (get_or (set s k v) i 0 ≡ v) × (get_or s k 0 ≡ get_or s i 0)
  byte_new i e = (ap (λ (j : ℕ). get_or (set s k v) j 0) (sym e) ∙ get_or-set_same s k v 0 inside, ap (λ (j : ℕ). get_or s j 0) e)

  byte_else : (i : ℕ) → (k ≡ i → ⊥) → get_or (set s k v) i 0 ≡ get_or s i 0
  byte_else i d = get_or-set_other s k i v 0 (λ e. d (sym e))

  -- the total changes by the byte, or by 256 times it
  Moved : ℕ → ℕ → Type 0
  Moved t u = (u + get_or s k 0 ≡ t + v) ⊎ (u + 256 * get_or s k 0 ≡ t + 256 * v)

  total_moved : (n at : ℕ) → at ≤ k → k < at + 2 * n → Moved (total n s at) (total n (set s k v) at)
  unfolding Moved total
  total_moved zero at l m = absurd (omega arith)
  total_moved (suc n) at l m = go (ℕ_discrete k at) (ℕ_discrete k (at + 1)) (total_moved n (at + 2))
    where
      rest : k < at + 2 → total n (set s k v) (at + 2) ≡ total n s (at + 2)
      rest h = total_same n (set s k v) s (at + 2) (set_same s k v (at + 2) _ (λ p q. omega arith))

      go : Dec (k ≡ at) → Dec (k ≡ at + 1) → (at + 2 ≤ k → k < at + 2 + 2 * n → Moved (total n s (at + 2)) (total n (set s k v) (at + 2))) → Moved (total (suc n) s at) (total (suc n) (set s k v) at)
      go (yes e) d f = inl (omega (arith, (byte_new at e).0, (byte_new at e).1, byte_else (at + 1) (λ q. omega arith), rest (omega arith)))
      go (no e) (yes d) f = inr (omega (arith, (byte_new (at + 1) d).0, (byte_new (at + 1) d).1, byte_else at e, rest (omega arith)))
      go (no e) (no d) f =
          let x = byte_else at e in
          let y = byte_else (at + 1) d in
          ⊎_elim (λ z. inl (omega arith)) (λ z. inr (omega arith)) (f (omega arith) (omega arith))

-- One altered byte of a block whose check is right makes it wrong.
pub altered : (s : List ℕ) (at k v : ℕ) → at + 512 ≤ length s → ((i : ℕ) → get_or s i 0 < 256) → v < 256 → (v ≡ get_or s k 0 → ⊥) → at ≤ k → k < at + 512 → ok_at s at ≡ true → ok_at (set s k v) at ≡ false
unfolding Moved
altered s at k v long bytes low new l m ok = (not-eq-not {b = false}).0 (λ e. elim (dec_lt k (at + 508)) [ yes h ↦ summed h e | no h ↦ stored h e ])
  where
    t : List ℕ
    t = set s k v

    is_new : get_or t k 0 ≡ v
    is_new = get_or-set_same s k v 0 (omega arith)

    -- a byte that is summed: the first sums differ, and what they are held against does not
    summed : k < at + 508 → ok_at t at ≡ true → ⊥
    summed h e =
        let a = ((ok_iff s at).0 ok).0 ∙ first_is s at in
        let b = ((ok_iff t at).0 e).0 ∙ first_is t at in
        let c = byte_else s k v (omega arith) (at + 508) (λ q. omega arith) in
        let d = byte_else s k v (omega arith) (at + 508 + 1) (λ q. omega arith) in
        let p : (1 + total 254 s at) % 65535 ≡ (1 + total 254 t at) % 65535 = sym a ∙ (rw (c, d) at b) in
        let x = bytes k in
        ⊎_elim
        (λ z. elim (dec_lt v (get_or s k 0)) [ yes q ↦ near _ _ (sym p) (omega arith) (omega arith) | no q ↦ near _ _ p (omega arith) (omega arith) ])
        (λ z. elim (dec_lt v (get_or s k 0)) [ yes q ↦ near _ _ (sym p) (omega arith) (omega arith) | no q ↦ near _ _ p (omega arith) (omega arith) ])
        (total_moved s k v (omega arith) 254 at l (omega arith))

    -- a byte of the check: the sums are the same, and they tell it
    stored : (k < at + 508 → ⊥) → ok_at t at ≡ true → ⊥
    stored h e =
        let d = check_one t s at (λ i. set_each (λ (x : ℕ). x < 256) s k v i low (bytes i)) bytes e ok (set_same s k v at (at + 508) (λ p q. omega arith)) in
        new (sym is_new ∙ d k (omega arith) (omega arith))
