-- What a test tells, for each way to build one: two tests, one of two, one for each number below a count or between two, a list of zeros, a place. Assumes nothing.
use Prim.Native.Nat.{ℕ, zero, suc, ◌+◌, ◌*◌, ◌-◌, ◌≤◌, ◌<◌}
use mathlib.Core.Path.{◌≡◌, refl, sym, ap, ◌∙◌}
use mathlib.Core.List.{List, [], ◌∷◌}
use mathlib.Core.Bool.{Bool, true, ◌&&◌}
use mathlib.Core.Logic.Iff
use mathlib.Core.Logic.{◌↔◌}
use native.Mathlib.Omega.{arith}
use native.Mathlib.Decide.{dec_lt}
use lib.ListN.{length, get_or, drop, replicate, length-drop}
use Rattle.tables.specs.Table.{lies}
use Rattle.tables.proofs.Tells.{both_iff, either_iff, le_iff, eq_iff}
use Rattle.tables.specs.Rows.{Clean}
use Rattle.grammar.specs.State.{Passed}
use Rattle.grammar.specs.Sound.{Given, GivenAction}
use Rattle.sound.specs.Test.{zeros, zeros_from, given_test, action_test}

-- the tests from i to i + n in a row
abbrev pub chain : (ℕ → Bool) → ℕ → ℕ → Bool
chain p zero i = p i
chain p (suc n) i = p i && chain p n (suc i)

pub chain_iff : (p : ℕ → Bool) (P : ℕ → Type 0) (n i : ℕ) → ((k : ℕ) → i ≤ k → k ≤ i + n → (p k ≡ true) ↔ P k) → (chain p n i ≡ true) ↔ ((k : ℕ) → i ≤ k → k ≤ i + n → P k)
chain_iff p P zero i f = Iff.trans (f i (omega arith) (omega arith)) (λ x k a b. let e : k ≡ i = omega arith in rw e x, λ x. x i (omega arith) (omega arith))
chain_iff p P (suc n) i f =
    Iff.trans (both_iff (f i (omega arith) (omega arith)) (chain_iff p P n (suc i) (λ k a b. f k (omega arith) (omega arith))))
    (λ x k a b. go x k a b (dec_lt i k), λ x. (x i (omega arith) (omega arith), λ k a b. x k (omega arith) (omega arith)))
  where
    go : P i × ((k : ℕ) → suc i ≤ k → k ≤ suc i + n → P k) → (k : ℕ) → i ≤ k → k ≤ i + suc n → Dec (i < k) → P k
    go x k a b (yes h) = x.1 k h (omega arith)
    go x k a b (no h) = let e : k ≡ i = omega arith in rw e x.0

zeros_iff : (l : List ℕ) → (zeros l ≡ true) ↔ (l ≡ replicate (length l) 0)
unfolding zeros
zeros_iff [] = (λ e. refl, λ e. refl)
zeros_iff (v ∷ vs) =
    Iff.trans (both_iff (eq_iff v 0) (zeros_iff vs))
    (λ x. ap (λ (k : ℕ). k ∷ vs) x.0 ∙ ap (λ (l : List ℕ). 0 ∷ l) x.1, λ e. (ap (λ (l : List ℕ). get_or l 0 0) e, ap (λ (l : List ℕ). drop 1 l) e))

-- "cells past them are zero"
pub clean_iff : (w n : ℕ) (t : List ℕ) → (zeros_from t (n * w) ≡ true) ↔ Clean w n t
unfolding zeros_from
clean_iff w n t =
    let e : replicate {A = ℕ} (length (drop (n * w) t)) 0 ≡ replicate (length t - n * w) 0 = rw length-drop in
    Iff.trans (zeros_iff (drop (n * w) t)) (λ z. record { zeros = z ∙ e }, λ c. c.zeros ∙ sym e)

-- "each place [..] has from ≤ to ≤ source length"
pub lies_iff : (src : List ℕ) (a b : ℕ) → (lies src a b ≡ true) ↔ Passed src a b
lies_iff src a b = Iff.trans (both_iff (le_iff a b) (le_iff b (length src))) (λ x. record { onward = x.0; inside = x.1 }, λ p. (p.onward, p.inside))

-- "0 undeclared or absent (its cells zero), else 1"
pub given_iff : (src : List ℕ) (f a b : ℕ) → (given_test src f a b ≡ true) ↔ Given src f a b
unfolding given_test
given_iff src f a b =
    either_iff (Iff.trans (both_iff (both_iff (eq_iff f 0) (eq_iff a 0)) (eq_iff b 0)) (λ x. (x.0.0, x.0.1, x.1), λ x. ((x.0, x.1), x.2)))
    (both_iff (eq_iff f 1) (lies_iff src a b))

pub given_action_iff : (src : List ℕ) (f a b c d : ℕ) → (action_test src f a b c d ≡ true) ↔ GivenAction src f a b c d
unfolding action_test
given_action_iff src f a b c d =
    either_iff
    (Iff.trans (both_iff (both_iff (both_iff (both_iff (eq_iff f 0) (eq_iff a 0)) (eq_iff b 0)) (eq_iff c 0)) (eq_iff d 0))
    (λ x. (x.0.0.0.0, x.0.0.0.1, x.0.0.1, x.0.1, x.1), λ x. ((((x.0, x.1), x.2), x.3), x.4)))
    (Iff.trans (both_iff (both_iff (eq_iff f 1) (lies_iff src a b)) (lies_iff src c d)) (λ x. (x.0.0, x.0.1, x.1), λ x. ((x.0, x.1), x.2)))
