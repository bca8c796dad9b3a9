-- `index::is_power`: halving finds one digit that is set.
use Rattle.std.proofs.Common.{◌≡◌, ◌/◌, ◌%◌, ◌≤◌, ℕ, zero, suc, eqb, count_ones, sym, ◌∙◌, arith, eq-eqb, ne_eqb}
use native.Mathlib.Decide.{ℕ_discrete}
use lib.Count.{ones_step}
use Rattle.std.proofs.lemmas.Nat.{ones_le_self, zero_from_ones}
use Rattle.index.specs.Index.{halved, is_power}
use Rattle.index.proofs.is_power.Goals as goal

halved_ones : (f x : ℕ) → x ≤ f → eqb (count_ones x) 1 ≡ halved f x
unfolding halved
halved_ones zero x h = ne_eqb (count_ones x) 1 (λ k. omega (arith, ones_le_self x))
halved_ones (suc f) x h =
    let s = ones_step x in
    elim (ℕ_discrete (x % 2) 0) [
      | yes e ↦ let d : count_ones x ≡ count_ones (x / 2) = omega arith in rw (eq-eqb _ _ e, halved, d) (halved_ones f (x / 2) (omega arith))
      | no e ↦
          elim (ℕ_discrete x 1) [
            | yes d ↦ let l = ones_le_self (x / 2) in rw (ne_eqb _ _ e, halved) (eq-eqb (count_ones x) 1 (omega arith) ∙ sym (eq-eqb x 1 d))
            | no d ↦ rw (ne_eqb _ _ e, halved, ne_eqb x 1 d) (ne_eqb (count_ones x) 1 (λ k. d (let z = zero_from_ones (x / 2) (omega arith) in omega arith)))
          ]
    ]

pub returns : goal.returns
unfolding is_power
returns c = c.is_power_of_two.ensures ∙ halved_ones c.args.m c.args.m (omega arith)
