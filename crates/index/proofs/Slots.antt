-- Walks over the slots of an index: what each step of them tells, that every slot is met, and that taken slots are counted. Assumes nothing.
use Rattle.std.specs.Prelude.{Some, None}
use Rattle.std.proofs.Common.{◌≡◌, ℕ, zero, suc, ◌+◌, ◌-◌, ◌<◌, ◌≤◌, Bool, true, false, List, [], ◌∷◌, length, get_or, set, replicate, sym, refl, ap, ◌∙◌, ⊎_elim, add-zero, arith, le-ltb, lt-ltb, eq-eqb, ne_eqb}
use mathlib.Core.Bool.{false≢true}
use native.Mathlib.Decide.{ℕ_discrete}
use lib.ListN.{get_or-eq_default}
use Rattle.scan.proofs.Bytes.{le_or_lt}
use Rattle.index.specs.Index.{next_slot, free_slot, probed, stands, filled}

-- the next slot
pub next_on : (m p : ℕ) → p + 1 < m → next_slot m p ≡ p + 1
unfolding next_slot
next_on m p h = rw (lt-ltb (p + 1) m h, next_slot)

pub next_round : (m p : ℕ) → m ≤ p + 1 → next_slot m p ≡ 0
unfolding next_slot
next_round m p h = rw (le-ltb (p + 1) m h, next_slot)

-- one step of each walk
module _ (ix : List ℕ) (f p : ℕ) where
  pub free_here : get_or ix p 0 ≡ 0 → free_slot ix (suc f) p ≡ p
  unfolding free_slot
  free_here h = rw (eq-eqb _ _ h, free_slot)

  pub free_on : (get_or ix p 0 ≡ 0 → ⊥) → free_slot ix (suc f) p ≡ free_slot ix f (next_slot (length ix) p)
  unfolding free_slot
  free_on h = rw (ne_eqb _ _ h, free_slot)

  module _ (has : ℕ → Bool) where
    pub probe_free : get_or ix p 0 ≡ 0 → probed has ix (suc f) p ≡ None
    unfolding probed
    probe_free h = rw (eq-eqb _ _ h, probed)

    module _ (h : get_or ix p 0 ≡ 0 → ⊥) where
      pub probe_hit : has (get_or ix p 0 - 1) ≡ true → probed has ix (suc f) p ≡ Some (get_or ix p 0 - 1)
      unfolding probed
      probe_hit e = rw (ne_eqb _ _ h, e, probed)

      pub probe_on : has (get_or ix p 0 - 1) ≡ false → probed has ix (suc f) p ≡ probed has ix f (next_slot (length ix) p)
      unfolding probed
      probe_on e = rw (ne_eqb _ _ h, e, probed)

  module _ (r : ℕ) where
    pub stands_here : get_or ix p 0 ≡ r + 1 → stands ix r (suc f) p ≡ true
    unfolding stands
    stands_here h = rw (eq-eqb _ _ h, stands)

    pub stands_on : (get_or ix p 0 ≡ 0 → ⊥) → get_or ix p 0 ≤ r → stands ix r (suc f) p ≡ stands ix r f (next_slot (length ix) p)
    unfolding stands
    stands_on h l = rw (ne_eqb (get_or ix p 0) (r + 1) (λ e. omega arith), ne_eqb _ _ h, le-ltb r (get_or ix p 0) l, stands)

    pub stands_free : get_or ix p 0 ≡ 0 → stands ix r (suc f) p ≡ false
    unfolding stands
    stands_free h = rw (ne_eqb (get_or ix p 0) (r + 1) (λ e. omega arith), eq-eqb _ _ h, stands)

    pub stands_later : r + 1 < get_or ix p 0 → stands ix r (suc f) p ≡ false
    unfolding stands
    stands_later h = rw (ne_eqb (get_or ix p 0) (r + 1) (λ e. omega arith), ne_eqb (get_or ix p 0) 0 (λ e. omega arith), lt-ltb r (get_or ix p 0) (omega arith), stands)

    -- where the walk ends with yes, the row is here, or an earlier one is and the rest ends with yes
    pub stands_cases {κ} : (C : Type κ) → stands ix r (suc f) p ≡ true
        → (get_or ix p 0 ≡ r + 1 → C)
        → ((get_or ix p 0 ≡ 0 → ⊥) → get_or ix p 0 ≤ r → stands ix r f (next_slot (length ix) p) ≡ true → C)
        → C
    stands_cases C s a b =
        elim (ℕ_discrete (get_or ix p 0) (r + 1)) [
          | yes e ↦ a e
          | no e ↦
              elim (ℕ_discrete (get_or ix p 0) 0) [
                | yes z ↦ absurd (false≢true (sym (stands_free z) ∙ s))
                | no z ↦
                    ⊎_elim (λ l. b z l (sym (stands_on z l) ∙ s))
                    (λ l. absurd (false≢true (sym (stands_later (omega arith)) ∙ s)))
                    (le_or_lt (get_or ix p 0) r)
              ]
        ]

-- Every slot is met: from slot p up to a free slot z,
pub free_up : (ix : List ℕ) (d f p : ℕ) → p + d < length ix → get_or ix (p + d) 0 ≡ 0 → d < f → free_slot ix f p < length ix
free_up ix d zero p b z l = absurd (omega arith)
free_up ix zero (suc f) p b z l = let e : get_or ix p 0 ≡ 0 = rw (add-zero p) at z in rw (free_here ix f p e) (omega arith)
free_up ix (suc d) (suc f) p b z l =
    elim (ℕ_discrete (get_or ix p 0) 0) [
      | yes e ↦ rw (free_here ix f p e) (omega arith)
      | no e ↦
          let q : p + 1 + d ≡ p + suc d = omega arith in
          rw (free_on ix f p e, next_on (length ix) p (omega arith)) (free_up ix d f (p + 1) (rw q b) (rw q z) (omega arith))
    ]

-- and from slot p to the end and round to z.
pub free_round : (ix : List ℕ) (d z f p : ℕ) → p + suc d ≡ length ix → z < length ix → get_or ix z 0 ≡ 0 → suc d + z < f → free_slot ix f p < length ix
free_round ix d z zero p b h e l = absurd (omega arith)
free_round ix zero z (suc f) p b h e l =
    elim (ℕ_discrete (get_or ix p 0) 0) [
      | yes q ↦ rw (free_here ix f p q) (omega arith)
      | no q ↦
          let s : 0 + z ≡ z = omega arith in
          rw (free_on ix f p q, next_round (length ix) p (omega arith)) (free_up ix z f 0 (omega arith) (rw s e) (omega arith))
    ]
free_round ix (suc d) z (suc f) p b h e l =
    elim (ℕ_discrete (get_or ix p 0) 0) [
      | yes q ↦ rw (free_here ix f p q) (omega arith)
      | no q ↦ rw (free_on ix f p q, next_on (length ix) p (omega arith)) (free_round ix d z f (p + 1) (omega arith) h e (omega arith))
    ]

-- A free slot is found wherever there is one. That p + d + 1 slots are there up to the end costs a subtraction.
pub free_found : (ix : List ℕ) (z p : ℕ) → p < length ix → z < length ix → get_or ix z 0 ≡ 0 → free_slot ix (length ix) p < length ix
free_found ix z p b h e =
    ⊎_elim (λ l. let q : p + (z - p) ≡ z = omega arith in free_up ix (z - p) (length ix) p (rw q h) (rw q e) (omega arith))
    (λ l. free_round ix (length ix - p - 1) z (length ix) p (omega arith) h e (omega arith))
    (le_or_lt p z)

-- what is found is free
pub free_is : (ix : List ℕ) (f p : ℕ) → free_slot ix f p < length ix → get_or ix (free_slot ix f p) 0 ≡ 0
unfolding free_slot
free_is ix zero p h = absurd (omega arith)
free_is ix (suc f) p h =
    elim (ℕ_discrete (get_or ix p 0) 0) [
      | yes q ↦ rw (free_here ix f p q) q
      | no q ↦ rw (free_on ix f p q) (free_is ix f (next_slot (length ix) p) (rw (free_on ix f p q) at h))
    ]

-- taken slots are counted
pub filled_zero : (v : ℕ) (vs : List ℕ) → v ≡ 0 → filled (v ∷ vs) ≡ filled vs
unfolding filled
filled_zero v vs h = rw (eq-eqb _ _ h, filled)

pub filled_one : (v : ℕ) (vs : List ℕ) → (v ≡ 0 → ⊥) → filled (v ∷ vs) ≡ suc (filled vs)
unfolding filled
filled_one v vs h = rw (ne_eqb _ _ h, filled)

pub filled_none : (m : ℕ) → filled (replicate m 0) ≡ 0
unfolding filled
filled_none zero = refl
filled_none (suc m) = filled_zero 0 (replicate m 0) refl ∙ filled_none m

-- a free slot is taken
pub filled_more : (ix : List ℕ) (z v : ℕ) → z < length ix → get_or ix z 0 ≡ 0 → (v ≡ 0 → ⊥) → filled (set ix z v) ≡ suc (filled ix)
filled_more [] z v h e d = absurd (omega arith)
filled_more (x ∷ xs) zero v h e d = filled_one v xs d ∙ ap suc (sym (filled_zero x xs e))
filled_more (x ∷ xs) (suc z) v h e d =
    elim (ℕ_discrete x 0) [
      | yes q ↦ filled_zero x (set xs z v) q ∙ filled_more xs z v (omega arith) e d ∙ ap suc (sym (filled_zero x xs q))
      | no q ↦ filled_one x (set xs z v) q ∙ ap suc (filled_more xs z v (omega arith) e d) ∙ ap suc (sym (filled_one x xs q))
    ]

-- a taken slot is freed
pub filled_less : (ix : List ℕ) (z : ℕ) → (get_or ix z 0 ≡ 0 → ⊥) → suc (filled (set ix z 0)) ≡ filled ix
filled_less [] z d = absurd (d (get_or-eq_default [] 0 {n = z} (omega arith)))
filled_less (x ∷ xs) zero d = ap suc (filled_zero 0 xs refl) ∙ sym (filled_one x xs d)
filled_less (x ∷ xs) (suc z) d =
    elim (ℕ_discrete x 0) [
      | yes q ↦ ap suc (filled_zero x (set xs z 0) q) ∙ filled_less xs z d ∙ sym (filled_zero x xs q)
      | no q ↦ ap suc (filled_one x (set xs z 0) q ∙ filled_less xs z d) ∙ sym (filled_one x xs q)
    ]

-- where none is taken all are free
pub filled_nothing : (ix : List ℕ) → filled ix ≡ 0 → (p : ℕ) → get_or ix p 0 ≡ 0
filled_nothing [] h p = get_or-eq_default [] 0 {n = p} (omega arith)
filled_nothing (x ∷ xs) h p =
    elim (ℕ_discrete x 0) [
      | yes q ↦ at p q (filled_nothing xs (sym (filled_zero x xs q) ∙ h))
      | no q ↦ let e = filled_one x xs q in absurd (omega arith)
    ]
  where
    at : (p : ℕ) → x ≡ 0 → ((p : ℕ) → get_or xs p 0 ≡ 0) → get_or (x ∷ xs) p 0 ≡ 0
    at zero q f = q
    at (suc p) q f = f p

-- and where not all are taken one is free
pub record Free (ix : List ℕ) : Type 0 where
  pub slot : ℕ
  pub there : slot < length ix
  pub free : get_or ix slot 0 ≡ 0

pub some_free : (ix : List ℕ) → filled ix < length ix → Free ix
some_free [] h = absurd (omega arith)
some_free (x ∷ xs) h =
    elim (ℕ_discrete x 0) [
      | yes q ↦ record { slot = 0; there = omega arith; free = q }
      | no q ↦ let e = filled_one x xs q in next (some_free xs (omega arith))
    ]
  where
    next : Free xs → Free (x ∷ xs)
    next f = let t = f.there in record { slot = suc f.slot; there = omega arith; free = f.free }
