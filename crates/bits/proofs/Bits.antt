-- Laws of the work bits.
use Prim.Native.Nat.{ℕ, zero, suc, ◌+◌, ◌*◌, ◌/◌, ◌%◌, ◌-◌, ◌^◌, ◌<◌, ◌≤◌}
use mathlib.Core.Path.{◌≡◌, refl, sym, ap, ◌∙◌}
use mathlib.Core.List.{List}
use native.Mathlib.Omega.{arith}
use native.Mathlib.Decide.{dec_lt, ℕ_discrete}
use native.Mathlib.Nat.{div_self, div-eq_of_lt, pow-suc, mul-mod_left, zero-div, one-mul, mod-eq_of_lt}
use lib.ListN.{length, get_or, set, length-set, replicate, get_or-replicate, length-replicate, get_or-eq_default}
use lib.Seq.{get_or-set_same, get_or-set_other, ext_get_or, set_out}
use lib.Bits.{bit_or, or_shr, or_mod, or_zero_r}
use lib.Pow.{pow_pos, pow-lt, pow-add, shl-shr, shr-shr}
use Rattle.bits.specs.Bits.{bit, set_bit, ones_to, ones, BitSet}

pub bit_lt : (ws : List ℕ) (k : ℕ) → bit ws k < 2
unfolding bit
bit_lt ws k = omega arith

pub bit_cases {ℓ} : {P : Type ℓ} (ws : List ℕ) (k : ℕ) → (bit ws k ≡ 0 → P) → (bit ws k ≡ 1 → P) → P
bit_cases ws k a b =
    elim (dec_lt (bit ws k) 1) [
      | yes h ↦ a (omega arith)
      | no h ↦ b (omega (arith, bit_lt ws k))
    ]

-- bit j of 2 ^ s
pow_bit_same : (s : ℕ) → 2 ^ s / 2 ^ s % 2 ≡ 1
pow_bit_same s = rw (div_self (pow_pos s))

pow_bit_above : (s j : ℕ) → s < j → 2 ^ s / 2 ^ j % 2 ≡ 0
pow_bit_above s j h = rw (div-eq_of_lt (pow-lt h))

pow_bit_below : (s j : ℕ) → j < s → 2 ^ s / 2 ^ j % 2 ≡ 0
pow_bit_below s j h =
    let e : s ≡ suc (s - suc j) + j = omega arith in
    ap (λ (x : ℕ). 2 ^ x / 2 ^ j % 2) e ∙ rw (pow-add 2 (suc (s - suc j)) j, shl-shr (2 ^ suc (s - suc j)) j, pow-suc 2 (s - suc j), mul-mod_left (2 ^ (s - suc j)) 2)

or_one : (x : ℕ) → x < 2 → bit_or x 1 ≡ 1
or_one zero h = refl
or_one (suc zero) h = refl
or_one (suc (suc x)) h = let z : ⊥ = omega arith in elim z [ ]

-- bit j of w with bit s set
or_split : (w s j : ℕ) → bit_or w (2 ^ s) / 2 ^ j % 2 ≡ bit_or (w / 2 ^ j % 2) (2 ^ s / 2 ^ j % 2)
or_split w s j = rw (or_shr w (2 ^ s) j) (or_mod (w / 2 ^ j) (2 ^ s / 2 ^ j) 1)

pub or_bit_same : (w s : ℕ) → bit_or w (2 ^ s) / 2 ^ s % 2 ≡ 1
or_bit_same w s = or_split w s s ∙ rw (pow_bit_same s) (or_one (w / 2 ^ s % 2) (omega arith))

pub or_bit_other : (w s j : ℕ) → (j ≡ s → ⊥) → bit_or w (2 ^ s) / 2 ^ j % 2 ≡ w / 2 ^ j % 2
or_bit_other w s j ne =
    or_split w s j
    ∙ elim (dec_lt j s) [
      | yes h ↦ rw (pow_bit_below s j h, or_zero_r (w / 2 ^ j % 2))
      | no h ↦ rw (pow_bit_above s j (omega arith), or_zero_r (w / 2 ^ j % 2))
    ]

-- the code's 1 << s at 32 bits
pub shl_one : (s : ℕ) → s < 32 → 1 * 2 ^ s % 2 ^ 32 ≡ 2 ^ s
shl_one s h = mod-eq_of_lt (rw (one-mul (2 ^ s)) (pow-lt {i = s} {j = 32} h)) ∙ one-mul (2 ^ s)

-- past the words nothing is set, and no bit is 1
pub set_past : (ws : List ℕ) (k : ℕ) → length ws ≤ k / 32 → ws ≡ set_bit k ws
unfolding set_bit
set_past ws k h = sym (set_out ws (k / 32) (bit_or (get_or ws (k / 32) 0) (2 ^ (k % 32))) h)

pub bit_past : (ws : List ℕ) (k : ℕ) → length ws ≤ k / 32 → bit ws k ≡ 0
unfolding bit
bit_past ws k h = rw (get_or-eq_default {A = ℕ} ws 0 h, zero-div (2 ^ (k % 32)))

-- the code's step
pub set_is : (ws : List ℕ) (k : ℕ) → set ws (k / 32) (bit_or (get_or ws (k / 32) 0) (1 * 2 ^ (k % 32) % 2 ^ 32)) ≡ set_bit k ws
unfolding set_bit
set_is ws k = rw (shl_one (k % 32) (omega arith))

-- among the words bit k is set, and no other is touched
pub set_there : (ws : List ℕ) (k : ℕ) → k < length ws * 32 → BitSet k ws (set_bit k ws)
unfolding bit set_bit
set_there ws k h = record {
  size = length-set ws (k / 32) (bit_or (get_or ws (k / 32) 0) (2 ^ (k % 32)));
  there = rw (get_or-set_same ws (k / 32) (bit_or (get_or ws (k / 32) 0) (2 ^ (k % 32))) 0 (omega arith)) (or_bit_same (get_or ws (k / 32) 0) (k % 32));
  others = λ j ne.
      elim (ℕ_discrete (j / 32) (k / 32)) [
        | yes e ↦ rw (e, get_or-set_same ws (k / 32) (bit_or (get_or ws (k / 32) 0) (2 ^ (k % 32))) 0 (omega arith)) (or_bit_other (get_or ws (k / 32) 0) (k % 32) (j % 32) (λ q. ne (omega arith)))
        | no e ↦ rw (get_or-set_other ws (k / 32) (j / 32) (bit_or (get_or ws (k / 32) 0) (2 ^ (k % 32))) 0 e)
      ];
}

-- ---- how many bits are 1

pub ones_le : (ws : List ℕ) (n : ℕ) → ones_to ws n ≤ n
unfolding ones_to
ones_le ws zero = omega arith
ones_le ws (suc n) = omega (arith, ones_le ws n, bit_lt ws n)

module _ (k : ℕ) (ws vs : List ℕ) (b : BitSet k ws vs) (off : bit ws k ≡ 0) where
  ones_before : (n : ℕ) → n ≤ k → ones_to vs n ≡ ones_to ws n
  unfolding ones_to
  ones_before zero h = refl
  ones_before (suc n) h = omega (arith, ones_before n (omega arith), b.others n (λ e. omega arith))

  ones_past : (n : ℕ) → k < n → ones_to vs n ≡ ones_to ws n + 1
  unfolding ones_to
  ones_past zero h = let z : ⊥ = omega arith in elim z [ ]
  ones_past (suc n) h =
      elim (ℕ_discrete n k) [
        | yes e ↦
            let f : bit vs n ≡ 1 = ap (bit vs) e ∙ b.there in
            let g : bit ws n ≡ 0 = ap (bit ws) e ∙ off in
            omega (arith, ones_before n (omega arith))
        | no e ↦ omega (arith, ones_past n (omega arith), b.others n e)
      ]

  -- a bit that was 0 is set: there is one bit more
  pub ones_more : k < length ws * 32 → ones vs ≡ ones ws + 1
  unfolding ones
  ones_more h = ap (λ (n : ℕ). ones_to vs (n * 32)) b.size ∙ ones_past (length ws * 32) h

-- a bit that was 1 is set: nothing changes that bits can tell
pub set_again : (k : ℕ) (ws vs : List ℕ) → BitSet k ws vs → (j : ℕ) → bit ws j ≡ 1 → bit vs j ≡ 1
set_again k ws vs b j e =
    elim (ℕ_discrete j k) [
      | yes q ↦ ap (bit vs) q ∙ b.there
      | no q ↦ b.others j q ∙ e
    ]

pub set_only {ℓ} : {P : Type ℓ} (k : ℕ) (ws vs : List ℕ) → BitSet k ws vs → (j : ℕ) → bit vs j ≡ 1 → (j ≡ k → P) → (bit ws j ≡ 1 → P) → P
set_only k ws vs b j e new old =
    elim (ℕ_discrete j k) [
      | yes q ↦ new q
      | no q ↦ old (sym (b.others j q) ∙ e)
    ]

-- ---- words are told by their bits

word_ext : (n x y : ℕ) → x < 2 ^ n → y < 2 ^ n → ((j : ℕ) → j < n → x / 2 ^ j % 2 ≡ y / 2 ^ j % 2) → x ≡ y
word_ext zero x y hx hy e = omega arith
word_ext (suc n) x y hx hy e =
    let p : 2 ^ suc n ≡ 2 ^ n * 2 = pow-suc 2 n in
    let a : x / 2 ≡ y / 2 = word_ext n (x / 2) (y / 2) (omega arith) (omega arith) (λ j h. rw (shr-shr x 1 j, shr-shr y 1 j) (e (1 + j) (omega arith))) in
    let b : x / 1 % 2 ≡ y / 1 % 2 = e 0 (omega arith) in
    omega arith

pub bits_ext : (ws vs : List ℕ) → length ws ≡ length vs → ((i : ℕ) → get_or ws i 0 < 2 ^ 32) → ((i : ℕ) → get_or vs i 0 < 2 ^ 32) → ((k : ℕ) → bit ws k ≡ bit vs k) → ws ≡ vs
unfolding bit
bits_ext ws vs l hw hv e =
    ext_get_or 0 ws vs l (λ i h. word_ext 32 (get_or ws i 0) (get_or vs i 0) (hw i) (hv i) (λ j hj.
    let a : (i * 32 + j) / 32 ≡ i = omega arith in
    let b : (i * 32 + j) % 32 ≡ j = omega arith in
    rw (a, b) at (e (i * 32 + j))))

-- no bit of zeros is 1
zero_cell : (n i : ℕ) → ◌≡◌ {A = ℕ} (get_or (replicate n 0) i 0) 0
zero_cell n i =
    elim (dec_lt i n) [
      | yes h ↦ get_or-replicate n i 0 0 h
      | no h ↦ get_or-eq_default {A = ℕ} (replicate n 0) 0 (rw (length-replicate {A = ℕ} n 0) (omega arith))
    ]

pub bit_zeros : (n k : ℕ) → bit (replicate n 0) k ≡ 0
unfolding bit
bit_zeros n k = rw (zero_cell n (k / 32), zero-div (2 ^ (k % 32)))
