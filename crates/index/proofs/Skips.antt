-- Walks over the slots of earlier rows: what each step and a run of steps tells, what a whole walk leaves known, and that they find the slots of entering and of the test. Assumes nothing.
use Rattle.std.proofs.Common.{◌≡◌, ℕ, zero, suc, ◌+◌, ◌-◌, ◌*◌, ◌<◌, ◌≤◌, true, false, eqb, ◌⊎◌, List, [], ◌∷◌, length, get_or, set, replicate, sym, refl, ap, ◌∙◌, inl, inr, ⊎_elim, add-one, arith, get_or-set_other, get_or-set_same, ext_get_or, le-ltb, lt-ltb, eq-eqb, ne_eqb, le-leb}
use native.Mathlib.Decide.{ℕ_discrete, dec_lt}
use borrow.Author.Tests.{lt-leb}
use lib.ListN.{length-replicate, get_or-replicate, get_or-eq_default}
use lib.Seq.{set_out}
use Rattle.scan.proofs.Bytes.{le_or_lt}
use Rattle.tables.specs.Table.{cell, zeroed}
use Rattle.index.specs.Index.{home, next_slot, free_slot, open_slot, row_slot, block, Taken, Skips, enter_row, entries, stands, row_stands, filled}
use Rattle.index.proofs.Slots.{next_on, next_round, free_here, free_on, stands_here, stands_on, stands_free, stands_later, filled_zero, filled_one}
use Rattle.index.proofs.Theorems.{entries_length}

-- past the end there is no number
out : (ix : List ℕ) (p : ℕ) → length ix ≤ p → get_or ix p 0 ≡ 0
out ix p h = get_or-eq_default ix 0 {n = p} h

-- one step
module _ (ix : List ℕ) (r f p : ℕ) where
  pub open_free : get_or ix p 0 ≡ 0 → open_slot ix r (suc f) p ≡ p
  unfolding open_slot
  open_free h = rw (le-ltb 0 (get_or ix p 0) (omega arith), open_slot)

  pub open_later : r < get_or ix p 0 → open_slot ix r (suc f) p ≡ p
  unfolding open_slot
  open_later h = rw (lt-ltb 0 (get_or ix p 0) (omega arith), lt-leb (get_or ix p 0) r h, open_slot)

  pub open_on : 0 < get_or ix p 0 → get_or ix p 0 ≤ r → open_slot ix r (suc f) p ≡ open_slot ix r f (next_slot (length ix) p)
  unfolding open_slot
  open_on h l = rw (lt-ltb 0 (get_or ix p 0) h, le-leb (get_or ix p 0) r l, open_slot)

  pub open_here : (Taken ix r p (p + 1) → ⊥) → open_slot ix r (suc f) p ≡ p
  open_here d =
      elim (ℕ_discrete (get_or ix p 0) 0) [
        | yes z ↦ open_free z
        | no z ↦
            ⊎_elim (λ l. absurd (d (record { each = λ q a b. let e : q ≡ p = omega arith in rw e (omega arith, l) }))) open_later
            (le_or_lt (get_or ix p 0) r)
      ]

  -- the slot is open, or an earlier row has it
  pub open_cases {κ} : (C : Type κ)
      → (open_slot ix r (suc f) p ≡ p → C)
      → (0 < get_or ix p 0 → get_or ix p 0 ≤ r → open_slot ix r (suc f) p ≡ open_slot ix r f (next_slot (length ix) p) → C)
      → C
  open_cases C a b =
      elim (ℕ_discrete (get_or ix p 0) 0) [
        | yes z ↦ a (open_free z)
        | no z ↦ ⊎_elim (λ l. b (omega arith) l (open_on (omega arith) l)) (λ l. a (open_later l)) (le_or_lt (get_or ix p 0) r)
      ]

-- slots that earlier rows have
module _ (ix : List ℕ) (r : ℕ) where
  pub taken_none : (a b : ℕ) → b ≤ a → Taken ix r a b
  taken_none a b h = record { each = λ q l m. absurd (omega arith) }

  pub taken_part : (a b c d : ℕ) → Taken ix r a b → a ≤ c → d ≤ b → Taken ix r c d
  taken_part a b c d T h k = record { each = λ q l m. T.each q (omega arith) (omega arith) }

  pub taken_one : (p b : ℕ) → 0 < get_or ix p 0 → get_or ix p 0 ≤ r → Taken ix r (p + 1) b → Taken ix r p b
  taken_one p b h k T =
      record {
        each = λ q l m. elim (ℕ_discrete q p) [ yes e ↦ rw e (h, k) | no e ↦ T.each q (omega arith) m ];
      }

  pub taken_more : (a b : ℕ) → Taken ix r a b → (get_or ix b 0 ≡ 0 → ⊥) → get_or ix b 0 ≤ r → Taken ix r a (b + 1)
  taken_more a b T d k =
      record {
        each = λ q l m. elim (ℕ_discrete q b) [ yes e ↦ rw e (omega arith, k) | no e ↦ T.each q l (omega arith) ];
      }

  pub taken_both : (a b c : ℕ) → Taken ix r a b → Taken ix r b c → Taken ix r a c
  taken_both a b c T U = record { each = λ q l m. ⊎_elim (λ i. U.each q i m) (λ i. T.each q l i) (le_or_lt b q) }

  -- a slot that is free, or that a later row has
  pub not_free : (p : ℕ) → get_or ix p 0 ≡ 0 → Taken ix r p (p + 1) → ⊥
  not_free p e T = let t = (T.each p (omega arith) (omega arith)).0 in omega arith

  pub not_later : (p : ℕ) → r < get_or ix p 0 → Taken ix r p (p + 1) → ⊥
  not_later p h T = let t = (T.each p (omega arith) (omega arith)).1 in omega arith

  pub taken_inside : (a b : ℕ) → Taken ix r a b → a < b → b ≤ length ix
  taken_inside a b T h =
      ⊎_elim (λ l. l)
      (λ l. let t = (T.each (b - 1) (omega arith) (omega arith)).0 in let e = out ix (b - 1) (omega arith) in absurd (omega arith))
      (le_or_lt b (length ix))

  pub taken_end : (a b : ℕ) → Taken ix r a b → a ≤ b → a ≤ length ix → b ≤ length ix
  taken_end a b T h k = ⊎_elim (λ l. omega arith) (λ l. taken_inside a b T l) (le_or_lt b a)

  -- a run of d + 1 such slots from p up to e
  pub run_on : (d f g p e : ℕ) → e ≡ p + d → f ≡ g + (d + 1) → e < length ix → Taken ix r p (e + 1) → open_slot ix r f p ≡ open_slot ix r g (next_slot (length ix) e)
  run_on d zero g p e s l b T = absurd (omega arith)
  run_on zero (suc f) g p e s l b T =
      let t = T.each p (omega arith) (omega arith) in
      let x : e ≡ p = omega arith in
      let y : f ≡ g = omega arith in
      rw (x, y) (open_on ix r g p t.0 t.1)
  run_on (suc d) (suc f) g p e s l b T =
      let t = T.each p (omega arith) (omega arith) in
      open_on ix r f p t.0 t.1
      ∙ rw (next_on (length ix) p (omega arith)) (run_on d f g (p + 1) e (omega arith) (omega arith) b (taken_part p (e + 1) (p + 1) (e + 1) T (omega arith) (omega arith)))

  pub run_full : (d f p e : ℕ) → e ≡ p + d → f ≤ d + 1 → e < length ix → Taken ix r p (e + 1) → open_slot ix r f p ≡ length ix
  unfolding open_slot
  run_full d zero p e s l b T = refl
  run_full zero (suc f) p e s l b T =
      let t = T.each p (omega arith) (omega arith) in
      let x : f ≡ 0 = omega arith in
      rw x (open_on ix r 0 p t.0 t.1)
  run_full (suc d) (suc f) p e s l b T =
      let t = T.each p (omega arith) (omega arith) in
      open_on ix r f p t.0 t.1
      ∙ rw (next_on (length ix) p (omega arith)) (run_full d f (p + 1) e (omega arith) (omega arith) b (taken_part p (e + 1) (p + 1) (e + 1) T (omega arith) (omega arith)))

  -- a walk that does not go round has passed slots of earlier rows, or all that it may
  pub passed_up : (f p z : ℕ) → p + f ≤ length ix → open_slot ix r f p ≡ z → ((p ≤ z) × (z < p + f) × Taken ix r p z) ⊎ (z ≡ length ix)
  unfolding open_slot
  passed_up zero p z b g = inr (sym g)
  passed_up (suc f) p z b g =
      open_cases ix r f p (((p ≤ z) × (z < p + suc f) × Taken ix r p z) ⊎ (z ≡ length ix))
      (λ e. let s : p ≡ z = sym e ∙ g in inl (omega arith, omega arith, taken_none p z (omega arith)))
      (λ h k e. go h k (sym e ∙ g) (dec_lt (p + 1) (length ix)) (passed_up f (p + 1) z))
    where
      go : 0 < get_or ix p 0 → get_or ix p 0 ≤ r → open_slot ix r f (next_slot (length ix) p) ≡ z → Dec (p + 1 < length ix)
          → (p + 1 + f ≤ length ix → open_slot ix r f (p + 1) ≡ z → ((p + 1 ≤ z) × (z < p + 1 + f) × Taken ix r (p + 1) z) ⊎ (z ≡ length ix))
          → ((p ≤ z) × (z < p + suc f) × Taken ix r p z) ⊎ (z ≡ length ix)
      go h k e (yes l) up =
          ⊎_elim (λ x. inl (omega (arith, x.0), omega (arith, x.1), taken_one p z h k x.2)) inr
          (up (omega arith) (rw (next_on (length ix) p l) at e))
      go h k e (no l) up = let s : f ≡ 0 = omega arith in inr (sym (rw s at e))

  -- and one that may go round has passed those up to the end, and those before the slot that it found there
  pub passed_round : (f p z : ℕ) → p < length ix → f ≤ length ix → length ix ≤ f + p → open_slot ix r f p ≡ z → ((p ≤ z) × Taken ix r p z) ⊎ ((z + length ix < f + p) × Taken ix r p (length ix) × Taken ix r 0 z)
  passed_round zero p z b l m g = absurd (omega arith)
  passed_round (suc f) p z b l m g =
      open_cases ix r f p (((p ≤ z) × Taken ix r p z) ⊎ ((z + length ix < suc f + p) × Taken ix r p (length ix) × Taken ix r 0 z))
      (λ e. let s : p ≡ z = sym e ∙ g in inl (omega arith, taken_none p z (omega arith)))
      (λ h k e. go h k (sym e ∙ g) (dec_lt (p + 1) (length ix)) (passed_round f (p + 1) z))
    where
      go : 0 < get_or ix p 0 → get_or ix p 0 ≤ r → open_slot ix r f (next_slot (length ix) p) ≡ z → Dec (p + 1 < length ix)
          → (p + 1 < length ix → f ≤ length ix → length ix ≤ f + (p + 1) → open_slot ix r f (p + 1) ≡ z → ((p + 1 ≤ z) × Taken ix r (p + 1) z) ⊎ ((z + length ix < f + (p + 1)) × Taken ix r (p + 1) (length ix) × Taken ix r 0 z))
          → ((p ≤ z) × Taken ix r p z) ⊎ ((z + length ix < suc f + p) × Taken ix r p (length ix) × Taken ix r 0 z)
      go h k e (yes i) on =
          ⊎_elim (λ x. inl (omega (arith, x.0), taken_one p z h k x.1))
          (λ x. inr (omega (arith, x.0), taken_one p (length ix) h k x.1, x.2))
          (on i (omega arith) (omega arith) (rw (next_on (length ix) p i) at e))
      go h k e (no i) on =
          let T : Taken ix r p (length ix) = taken_one p (length ix) h k (taken_none (p + 1) (length ix) (omega arith)) in
          ⊎_elim (λ x. inr (omega (arith, x.1), T, x.2))
          (λ x. inl (omega arith, rw x T))
          (passed_up f 0 z (omega arith) (rw (next_round (length ix) p (omega arith)) at e))

-- what is left of a walk gives the whole's answer o, where earlier rows have the slots from p up to z
module _ (ix : List ℕ) (r f p o : ℕ) (l : 0 < f) (inv : open_slot ix r f p ≡ o) (z : ℕ) (T : Taken ix r p z) where
  module _ (b : p < z) where
    pub run_inside : z - 1 < length ix
    run_inside = let i = taken_inside ix r p z T b in omega arith

    run : Taken ix r p (z - 1 + 1)
    run = taken_part ix r p z p (z - 1 + 1) T (omega arith) (omega arith)

    pub walk_full : f ≤ z - p → length ix ≡ o
    walk_full k = sym (run_full ix r (z - p - 1) f p (z - 1) (omega arith) (omega arith) run_inside run) ∙ inv

    pub walk_on : z - p < f → (q : ℕ) → q ≡ next_slot (length ix) (z - 1) → open_slot ix r (f - (z - p)) q ≡ o
    walk_on k q g = rw g (sym (run_on ix r (z - p - 1) f (f - (z - p)) p (z - 1) (omega arith) (omega arith) run_inside run) ∙ inv)

  pub walk_found : p ≤ z → z < length ix → z - p < f → (Taken ix r z (z + 1) → ⊥) → z ≡ o
  walk_found b i k d = go (ℕ_discrete p z)
    where
      more : (g : ℕ) → 0 < g → g ≡ suc (g - 1)
      more g h = omega arith

      go : Dec (p ≡ z) → z ≡ o
      go (yes e) = sym (open_here ix r (f - 1) z d) ∙ rw (← more f l, ← e) inv
      go (no e) =
          let s : z - 1 + 1 ≡ z = omega arith in
          let n : next_slot (length ix) (z - 1) ≡ z = next_on (length ix) (z - 1) (omega arith) ∙ s in
          sym (open_here ix r (f - (z - p) - 1) z d) ∙ rw (← more (f - (z - p)) (omega arith)) (walk_on (omega arith) k z (sym n))

pub walk_end : (ix : List ℕ) (r f p o : ℕ) → f ≤ 0 → open_slot ix r f p ≡ o → length ix ≡ o
unfolding open_slot
walk_end ix r f p o l inv = let e : f ≡ 0 = omega arith in rw e at inv

-- what is known of blocks
pub skips_none : (ix : List ℕ) (r n : ℕ) → Skips ix r (replicate n 0)
skips_none ix r n = record { taken = λ k. taken_none ix r _ _ (let e = zero_at k (dec_lt k n) in omega arith) }
  where
    zero_at : (k : ℕ) → Dec (k < n) → get_or {A = ℕ} (replicate n 0) k 0 ≡ 0
    zero_at k (yes l) = get_or-replicate {A = ℕ} n k 0 0 l
    zero_at k (no l) = out (replicate n 0) k (rw (length-replicate {A = ℕ} n 0) (omega arith))

module _ (ix : List ℕ) (r : ℕ) (skips : List ℕ) (S : Skips ix r skips) where
  -- a block at whose first slot the walk stands
  pub skips_known : (p k e : ℕ) → block * k ≡ p → e ≡ get_or skips k 0 → Taken ix r p (e * block)
  skips_known p k e g h = taken_part ix r (block * k) (block * get_or skips k 0) p (e * block) (S.taken k) (omega arith) (omega arith)

  pub skips_raise : (k e : ℕ) → k < length skips → Taken ix r (block * k) (block * e) → Skips ix r (set skips k e)
  skips_raise k e l T = record { taken = λ j. at j (ℕ_discrete j k) }
    where
      at : (j : ℕ) → Dec (j ≡ k) → Taken ix r (block * j) (block * get_or (set skips k e) j 0)
      at j (yes q) = rw (q, get_or-set_same skips k e 0 l) T
      at j (no q) = rw (get_or-set_other skips k j e 0 q) (S.taken j)

  -- the next row's walk, where the index stays
  pub skips_next : Skips ix (r + 1) skips
  skips_next = record { taken = λ k. record { each = λ q l m. let t = (S.taken k).each q l m in (t.0, let x = t.1 in omega arith) } }

  -- and where row r is entered
  pub skips_entered : (z : ℕ) → Skips (set ix z (r + 1)) (r + 1) skips
  skips_entered z = record { taken = λ k. record { each = λ q l m. at q (ℕ_discrete q z) (dec_lt z (length ix)) ((S.taken k).each q l m) } }
    where
      at : (q : ℕ) → Dec (q ≡ z) → Dec (z < length ix) → (0 < get_or ix q 0) × (get_or ix q 0 ≤ r) → (0 < get_or (set ix z (r + 1)) q 0) × (get_or (set ix z (r + 1)) q 0 ≤ r + 1)
      at q (yes e) (yes l) t = rw (e, get_or-set_same ix z (r + 1) 0 l) (omega arith, omega arith)
      at q (yes e) (no l) t = rw (set_out ix z (r + 1) (omega arith)) (t.0, let x = t.1 in omega arith)
      at q (no e) l t = rw (get_or-set_other ix z q (r + 1) 0 e) (t.0, let x = t.1 in omega arith)

-- what a walk from slot `from` to slot z leaves known
module _ (ix : List ℕ) (r m from z : ℕ) (e : length ix ≡ m) (l : from < m) (g : z ≡ open_slot ix r m from) where
  whole : ((from ≤ z) × Taken ix r from z) ⊎ ((z + length ix < m + from) × Taken ix r from (length ix) × Taken ix r 0 z)
  whole = passed_round ix r m from z (omega arith) (omega arith) (omega arith) (sym g)

  pub noted_up : (k b : ℕ) → from ≤ block * k → block * b ≤ z → from ≤ z → Taken ix r (block * k) (block * b)
  noted_up k b h i j = ⊎_elim (λ x. taken_part ix r from z _ _ x.1 h i) (λ x. absurd (omega (arith, x.0))) whole

  pub noted_end : (k b : ℕ) → from ≤ block * k → block * b ≤ m → z < from → Taken ix r (block * k) (block * b)
  noted_end k b h i j = ⊎_elim (λ x. absurd (omega (arith, x.0))) (λ x. taken_part ix r from (length ix) _ _ x.1 h (omega arith)) whole

  pub noted_start : (b : ℕ) → block * b ≤ z → z < from → Taken ix r (block * 0) (block * b)
  noted_start b i j = ⊎_elim (λ x. absurd (omega (arith, x.0))) (λ x. taken_part ix r 0 z _ _ x.2 (omega arith) i) whole

-- ---- the slots that are found

-- where no later row is there, an open slot is a free one
pub free_open : (ix : List ℕ) (r : ℕ) → ((p : ℕ) → get_or ix p 0 ≤ r) → (f p : ℕ) → free_slot ix f p ≡ open_slot ix r f p
unfolding free_slot open_slot
free_open ix r b zero p = refl
free_open ix r b (suc f) p =
    elim (ℕ_discrete (get_or ix p 0) 0) [
      | yes z ↦ free_here ix f p z ∙ sym (open_free ix r f p z)
      | no z ↦ free_on ix f p z ∙ free_open ix r b f (next_slot (length ix) p) ∙ sym (open_on ix r f p (omega arith) (b p))
    ]

-- a row stands where its open slot holds it
pub stands_open : (ix : List ℕ) (r f p : ℕ) → stands ix r f p ≡ eqb (get_or ix (open_slot ix r f p) 0) (r + 1)
unfolding stands open_slot
stands_open ix r zero p = let x = out ix (length ix) (omega arith) in sym (ne_eqb (get_or ix (length ix) 0) (r + 1) (λ e. omega arith))
stands_open ix r (suc f) p =
    elim (ℕ_discrete (get_or ix p 0) 0) [
      | yes z ↦ stands_free ix f p r z ∙ rw (open_free ix r f p z) (sym (ne_eqb (get_or ix p 0) (r + 1) (λ e. omega arith)))
      | no z ↦
          ⊎_elim (λ l. stands_on ix f p r z l ∙ stands_open ix r f (next_slot (length ix) p) ∙ rw (open_on ix r f p (omega arith) l))
          (λ l. later l (ℕ_discrete (get_or ix p 0) (r + 1)))
          (le_or_lt (get_or ix p 0) r)
    ]
  where
    later : r < get_or ix p 0 → Dec (get_or ix p 0 ≡ r + 1) → stands ix r (suc f) p ≡ eqb (get_or ix (open_slot ix r (suc f) p) 0) (r + 1)
    later l (yes e) = stands_here ix f p r e ∙ rw (open_later ix r f p l) (sym (eq-eqb _ _ e))
    later l (no e) = stands_later ix f p r (omega arith) ∙ rw (open_later ix r f p l) (sym (ne_eqb _ _ e))

pub filled_inside : (ix : List ℕ) → filled ix ≤ length ix
unfolding filled
filled_inside [] = omega arith
filled_inside (v ∷ vs) =
    let i = filled_inside vs in
    elim (ℕ_discrete v 0) [ yes e ↦ rw (filled_zero v vs e) (omega arith) | no e ↦ rw (filled_one v vs e) (omega arith) ]

module _ (src : List ℕ) (w k : ℕ) (t : List ℕ) where
  pub row_stands_open : (ix : List ℕ) (r : ℕ) → row_stands src w k t ix r ≡ eqb (get_or ix (row_slot src w k t ix r) 0) (r + 1)
  unfolding row_stands row_slot
  row_stands_open ix r = stands_open ix r (length ix) _

  module _ (ix : List ℕ) (r z : ℕ) where
    pub row_slot_is : (a b p : ℕ) → a ≡ cell w t r k → b ≡ cell w t r (k + 1) → p ≡ home src (length ix) a b → z ≡ open_slot ix r (length ix) p → z ≡ row_slot src w k t ix r
    unfolding row_slot
    row_slot_is a b p x y e g = rw (g, e, x, y)

    module _ (g : z ≡ row_slot src w k t ix r) where
      pub stands_found : get_or ix z 0 ≡ r + 1 → true ≡ row_stands src w k t ix r
      stands_found h = sym (row_stands_open ix r ∙ rw (← g) (eq-eqb _ _ h))

      pub stands_not : (get_or ix z 0 ≡ r + 1 → ⊥) → false ≡ row_stands src w k t ix r
      stands_not h = sym (row_stands_open ix r ∙ rw (← g) (ne_eqb _ _ h))

      pub stands_nowhere : length ix ≤ z → false ≡ row_stands src w k t ix r
      stands_nowhere l = let e = out ix z l in stands_not (λ h. omega arith)

  -- the numbers of n entered rows
  pub entries_bound : (m n p : ℕ) → get_or (entries src w k t m n) p 0 ≤ n
  unfolding entries enter_row
  entries_bound m zero p = elim (dec_lt p m) [
    | yes l ↦ rw (get_or-replicate {A = ℕ} m p 0 0 l) (omega arith)
    | no l ↦ rw (out (replicate m 0) p (rw (length-replicate {A = ℕ} m 0) (omega arith))) (omega arith)
  ]
  entries_bound m (suc n) p = go (entries src w k t m n) _ (ℕ_discrete p _) (dec_lt _ _) (entries_bound m n p)
    where
      go : (ix : List ℕ) (z : ℕ) → Dec (p ≡ z) → Dec (z < length ix) → get_or ix p 0 ≤ n → get_or (set ix z (n + 1)) p 0 ≤ suc n
      go ix z (yes e) (yes l) b = rw (e, get_or-set_same ix z (n + 1) 0 l) (omega arith)
      go ix z (yes e) (no l) b = rw (set_out ix z (n + 1) (omega arith)) (omega arith)
      go ix z (no e) l b = rw (get_or-set_other ix z p (n + 1) 0 e) (omega arith)

  -- one row more
  pub entries_next : (m r : ℕ) (ix : List ℕ) → ix ≡ entries src w k t m r → (z : ℕ) → z ≡ row_slot src w k t ix r → (jx : List ℕ) → jx ≡ set ix z (r + 1) → jx ≡ entries src w k t m (r + 1)
  unfolding entries enter_row row_slot
  entries_next m r ix I z g jx e =
      let free = free_open ix r (λ p. rw I (entries_bound m r p)) (length ix) _ in
      e ∙ ap (λ (x : ℕ). set ix x (r + 1)) (g ∙ sym free) ∙ ap (enter_row src w k t r) I ∙ sym (ap (entries src w k t m) (add-one r))

  pub entries_nowhere : (n : ℕ) (ix : List ℕ) → length ix ≡ 0 → ix ≡ entries src w k t (length ix) n
  entries_nowhere n ix e = ext_get_or 0 ix (entries src w k t (length ix) n) (sym (entries_length src w k t (length ix) n)) (λ p l. absurd (omega arith))

  pub entries_start : (ix : List ℕ) → ix ≡ zeroed ix → ix ≡ entries src w k t (length ix) 0
  unfolding entries
  entries_start ix e = e
