-- A test of every number below n, number by number, and what it tells. Assumes nothing.
use Prim.Native.Nat.{ℕ, zero, suc, ◌+◌, ◌≤◌, ◌<◌}
use mathlib.Core.Path.{◌≡◌, refl, sym, ap, ◌∙◌}
use mathlib.Core.Bool.{Bool, true, false, ◌&&◌, not, and-false, false≢true}
use mathlib.Core.Logic.{◌↔◌}
use native.Mathlib.Omega.{arith}
use native.Mathlib.Numerals.{add-one}
use native.Mathlib.Decide.{ℕ_discrete}
use borrow.Author.Tests.{not-true, not-false}
use Rattle.tables.specs.Below.{below}

pub below_none : (p : ℕ → Bool) → below 0 p ≡ true
unfolding below
below_none p = refl

module _ (p : ℕ → Bool) (i : ℕ) where
  pub below_on : (q : Bool) → below i p ≡ true → q ≡ p i → not q ≡ false → below (i + 1) p ≡ true
  unfolding below
  below_on q h e k = rw (add-one i, below, h) (sym e ∙ not-false q k)

  pub below_not : (n : ℕ) (q : Bool) → i < n → q ≡ p i → not q ≡ true → false ≡ below n p
  unfolding below
  below_not n q h e k = sym (go n h)
    where
      go : (n : ℕ) → i < n → below n p ≡ false
      go zero h = absurd (omega arith)
      go (suc n) h =
          elim (ℕ_discrete i n) [
            | yes f ↦ ap (λ (b : Bool). below n p && b) (ap p (sym f) ∙ sym e ∙ not-true q k) ∙ and-false (below n p)
            | no f ↦ ap (λ (b : Bool). b && p n) (go n (omega arith))
          ]

  pub below_all : (n : ℕ) → below i p ≡ true → i ≤ n → n ≤ i → true ≡ below n p
  below_all n h k l =
      let e : i ≡ n = omega arith in
      rw (← e) (sym h)

pub below_each : (p : ℕ → Bool) (n : ℕ) → below n p ≡ true → (r : ℕ) → r < n → p r ≡ true
unfolding below
below_each p zero h r l = absurd (omega arith)
below_each p (suc n) h r l = go (below n p) refl h (ℕ_discrete r n) (below_each p n)
  where
    go : (b : Bool) → below n p ≡ b → (b && p n) ≡ true → Dec (r ≡ n) → (below n p ≡ true → (r : ℕ) → r < n → p r ≡ true) → p r ≡ true
    go true e h (yes q) f = rw q h
    go true e h (no q) f = f e r (omega arith)
    go false e h q f = absurd (false≢true h)

pub each_below : (p : ℕ → Bool) (n : ℕ) → ((r : ℕ) → r < n → p r ≡ true) → below n p ≡ true
unfolding below
each_below p zero f = refl
each_below p (suc n) f = let e = each_below p n (λ r l. f r (omega arith)) in rw (e, f n (omega arith))

-- the test tells of every number below n what it tells of one
pub below_iff : (p : ℕ → Bool) (P : ℕ → Type 0) → ((r : ℕ) → (p r ≡ true) ↔ P r) → (n : ℕ) → (below n p ≡ true) ↔ ((r : ℕ) → r < n → P r)
below_iff p P f n = (λ e r h. (f r).0 (below_each p n e r h), λ x. each_below p n (λ r h. (f r).1 (x r h)))
