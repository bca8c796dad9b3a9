-- The test of a power of two tells one, and that of a size a right one. Assumes nothing.
use Rattle.std.proofs.Common.{◌≡◌, ℕ, zero, suc, ◌*◌, ◌/◌, ◌%◌, ◌^◌, ◌<◌, min, true, eqb, ◌↔◌, sym, refl, ◌∙◌, arith, eq-eqb, ne_eqb, eqb-true}
use mathlib.Core.Bool.{false≢true}
use mathlib.Core.Logic.Iff
use native.Mathlib.Nat.{two-pow-succ}
use native.Mathlib.Decide.{ℕ_discrete}
use Rattle.tables.proofs.Tells.{both_iff, le_iff}
use Rattle.index.specs.Index.{halved, is_power, Power, size_test, Sized}

even : (f x : ℕ) → x % 2 ≡ 0 → halved (suc f) x ≡ halved f (x / 2)
unfolding halved
even f x e = rw (eq-eqb _ _ e, halved)

odd : (f x : ℕ) → (x % 2 ≡ 0 → ⊥) → halved (suc f) x ≡ eqb x 1
unfolding halved
odd f x e = rw (ne_eqb _ _ e, halved)

tells : (f x : ℕ) → halved f x ≡ true → Power x
unfolding halved
tells zero x h = absurd (false≢true h)
tells (suc f) x h =
    elim (ℕ_discrete (x % 2) 0) [
      | yes e ↦
          let P = tells f (x / 2) (sym (even f x e) ∙ h) in
          let i = P.is in
          let p = two-pow-succ P.exponent in
          record { exponent = suc P.exponent; is = omega arith }
      | no e ↦ record { exponent = 0; is = eqb-true x 1 (sym (odd f x e) ∙ h) }
    ]

told : (j f : ℕ) → j < f → halved f (2 ^ j) ≡ true
told j zero l = absurd (omega arith)
told zero (suc f) l = odd f 1 (λ e. omega arith) ∙ eq-eqb 1 1 refl
told (suc j) (suc f) l =
    let p = two-pow-succ j in
    let e : (2 ^ suc j) % 2 ≡ 0 = omega arith in
    let d : (2 ^ suc j) / 2 ≡ 2 ^ j = omega arith in
    even f (2 ^ suc j) e ∙ rw d (told j f (omega arith))

above : (j : ℕ) → j < 2 ^ j
above zero = omega arith
above (suc j) = let h = above j in let p = two-pow-succ j in omega arith

pub power_iff : (m : ℕ) → (is_power m ≡ true) ↔ Power m
unfolding is_power
power_iff m = (tells m m, λ P. let i = P.is in let a = above P.exponent in rw i (told P.exponent (2 ^ P.exponent) a))

-- a right size
pub size_iff : (m n w : ℕ) → (size_test m n w ≡ true) ↔ Sized m n w
unfolding size_test
size_iff m n w = Iff.trans (both_iff (power_iff m) (le_iff (min (n / w) 4294967295 * 2) m)) (λ x. record { power = x.0; roomy = x.1 }, λ s. (s.power, s.roomy))
