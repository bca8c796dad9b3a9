-- What a test tells, for two tests, one of two, and a comparison of numbers. Assumes nothing.
use Prim.Native.Nat.{ℕ, ◌≤◌, ◌<◌}
use mathlib.Core.Path.{◌≡◌, refl}
use mathlib.Core.Bool.{Bool, true, false, ◌||◌, ◌&&◌, false≢true}
use mathlib.Core.Logic.{◌↔◌, ◌⊎◌, inl, inr, ⊎_elim}
use borrow.Author.Tests.{leb-true, ltb-true, eqb-true, le-leb, lt-ltb, eq-eqb}
use lib.Dec.{leb, ltb, eqb}

pub both_iff : {a b : Bool} {P Q : Type 0} → (a ≡ true) ↔ P → (b ≡ true) ↔ Q → ((a && b) ≡ true) ↔ (P × Q)
both_iff {a = true} f g = (λ e. (f.0 refl, g.0 e), λ x. g.1 x.1)
both_iff {a = false} f g = (λ e. absurd (false≢true e), λ x. f.1 x.0)

pub either_iff : {a b : Bool} {P Q : Type 0} → (a ≡ true) ↔ P → (b ≡ true) ↔ Q → ((a || b) ≡ true) ↔ (P ⊎ Q)
either_iff {a = true} f g = (λ e. inl (f.0 refl), λ x. refl)
either_iff {a = false} f g = (λ e. inr (g.0 e), ⊎_elim (λ x. absurd (false≢true (f.1 x))) g.1)

pub le_iff : (m n : ℕ) → (leb m n ≡ true) ↔ (m ≤ n)
le_iff m n = (leb-true m n, le-leb m n)

pub lt_iff : (m n : ℕ) → (ltb m n ≡ true) ↔ (m < n)
lt_iff m n = (ltb-true m n, lt-ltb m n)

pub eq_iff : (m n : ℕ) → (eqb m n ≡ true) ↔ (m ≡ n)
eq_iff m n = (eqb-true m n, eq-eqb m n)
