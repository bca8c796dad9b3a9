-- An index that holds what entering the rows in order gives: a lookup is the linear search, one more row keeps it, and the test that reads the index tells it. Assumes nothing.
use Rattle.std.specs.Prelude.{Option, Some, None}
use Rattle.std.proofs.Common.{subst, ◌≡◌, ℕ, zero, suc, ◌+◌, ◌-◌, ◌*◌, ◌<◌, ◌≤◌, Bool, true, false, ◌&&◌, eqb, leb, ◌↔◌, List, [], ◌∷◌, length, get_or, set, replicate, sym, refl, ap, ◌∙◌, ⊎_elim, mod-lt, add-one, arith, length-set, get_or-set_other, get_or-set_same, ext_get_or, eq-eqb, eqb-true, le-leb}
use mathlib.Core.Bool.{false≢true}
use native.Mathlib.Decide.{ℕ_discrete, dec_lt}
use borrow.Author.Tests.{lt-leb}
use lib.ListN.{length-replicate, get_or-replicate, get_or-eq_default}
use Rattle.scan.proofs.Bytes.{le_or_lt, within_yes}
use Rattle.tables.specs.Below.{below}
use Rattle.tables.specs.Table.{cell, put, zeroed, same_part, has_name, find_name}
use Rattle.tables.proofs.Cases.{same_part_iff, find_cases}
use Rattle.tables.proofs.Below.{below_each, each_below}
use Rattle.tables.proofs.Rows.{row_below, cell_old}
use Rattle.index.specs.Hash.{hash_from, hash_of}
use Rattle.index.specs.Index.{home, next_slot, free_slot, enter_row, entries, Indexed, probed, lookup, stands, row_stands, filled, index_test, AllStand}
use Rattle.index.proofs.Slots.{free_here, free_on, probe_free, probe_hit, probe_on, stands_here, stands_on, stands_cases, free_found, free_is, filled_none, filled_more, filled_less, filled_nothing, Free, some_free}

-- ---- a lookup

-- equal names have one home
pub same_hash : (src : List ℕ) (a b c d : ℕ) → same_part src a b c d ≡ true → hash_of src a b ≡ hash_of src c d
unfolding hash_of
same_hash src a b c d h =
    let x = (same_part_iff src a b c d).0 h in
    rw (within_yes a (length src) b x.0 x.1, within_yes c (length src) d x.2 x.3, hash_of) (ap (hash_from 5381) x.4)

-- a row that stands on the way, and is the first to pass the test, is what the walk answers
pub probe_row : (has : ℕ → Bool) (ix : List ℕ) (r : ℕ) → has r ≡ true → ((q : ℕ) → q < r → has q ≡ false) → (f p : ℕ) → stands ix r f p ≡ true → probed has ix f p ≡ Some r
unfolding stands
probe_row has ix r h k zero p s = absurd (false≢true s)
probe_row has ix r h k (suc f) p s =
    stands_cases ix f p r (probed has ix (suc f) p ≡ Some r) s
    (λ e. let q : get_or ix p 0 - 1 ≡ r = omega arith in probe_hit ix f p has (λ z. omega arith) (rw q h) ∙ ap Some q)
    (λ z l t. probe_on ix f p has z (k (get_or ix p 0 - 1) (let e = z in omega arith)) ∙ probe_row has ix r h k f (next_slot (length ix) p) t)

-- where no row passes, the walk answers that
pub probe_none : (has : ℕ → Bool) (ix : List ℕ) (n : ℕ) → ((p : ℕ) → get_or ix p 0 ≤ n) → ((q : ℕ) → q < n → has q ≡ false) → (f p : ℕ) → probed has ix f p ≡ None
unfolding probed
probe_none has ix n b k zero p = refl
probe_none has ix n b k (suc f) p =
    elim (ℕ_discrete (get_or ix p 0) 0) [
      | yes z ↦ probe_free ix f p has z
      | no z ↦ let l = b p in probe_on ix f p has z (k (get_or ix p 0 - 1) (omega arith)) ∙ probe_none has ix n b k f (next_slot (length ix) p)
    ]

module _ (src : List ℕ) (w k : ℕ) (t : List ℕ) where
  pub lookup_found : (n : ℕ) (ix : List ℕ) → AllStand src w k n t ix → (a b : ℕ) → lookup src w k t ix a b ≡ find_name src w k n t a b
  unfolding lookup has_name row_stands
  lookup_found n ix E a b = find_cases (λ (o : Option ℕ). lookup src w k t ix a b ≡ o) src w k n t a b there none
    where
      there : (r : ℕ) → r < n → has_name src w k t a b r ≡ true → ((q : ℕ) → q < r → has_name src w k t a b q ≡ false) → lookup src w k t ix a b ≡ Some r
      there r l h before =
          let e : home src (length ix) a b ≡ home src (length ix) (cell w t r k) (cell w t r (k + 1)) = rw (same_hash src (cell w t r k) (cell w t r (k + 1)) a b h) in
          rw e (probe_row (has_name src w k t a b) ix r h before (length ix) _ (E.each r l))

      none : ((r : ℕ) → r < n → has_name src w k t a b r ≡ false) → lookup src w k t ix a b ≡ None
      none h = probe_none (has_name src w k t a b) ix n E.bound h (length ix) _

-- ---- one more row

-- rows stand where they stood when a free slot is taken,
pub stands_kept : (ix : List ℕ) (z v r : ℕ) → get_or ix z 0 ≡ 0 → (f p : ℕ) → stands ix r f p ≡ true → stands (set ix z v) r f p ≡ true
unfolding stands
stands_kept ix z v r e zero p s = s
stands_kept ix z v r e (suc f) p s =
    stands_cases ix f p r (stands (set ix z v) r (suc f) p ≡ true) s
    (λ h. stands_here (set ix z v) f p r (same (λ q. omega arith) ∙ h))
    (λ d l t. stands_on (set ix z v) f p r (λ q. d (sym (same d) ∙ q)) (rw (same d) l) ∙ rw (length-set ix z v) (stands_kept ix z v r e f (next_slot (length ix) p) t))
  where
    same : (get_or ix p 0 ≡ 0 → ⊥) → get_or (set ix z v) p 0 ≡ get_or ix p 0
    same d = get_or-set_other ix z p v 0 (λ q. d (rw q e))

-- and the new row stands in it.
pub stands_new : (ix : List ℕ) (n : ℕ) → ((p : ℕ) → get_or ix p 0 ≤ n) → (f p z : ℕ) → free_slot ix f p ≡ z → z < length ix → get_or ix z 0 ≡ 0 → stands (set ix z (n + 1)) n f p ≡ true
unfolding free_slot
stands_new ix n b zero p z g h e = absurd (omega arith)
stands_new ix n b (suc f) p z g h e =
    elim (ℕ_discrete (get_or ix p 0) 0) [
      | yes q ↦ let s : p ≡ z = sym (free_here ix f p q) ∙ g in rw s (stands_here (set ix z (n + 1)) f z n (get_or-set_same ix z (n + 1) 0 h))
      | no q ↦
          let s : get_or (set ix z (n + 1)) p 0 ≡ get_or ix p 0 = get_or-set_other ix z p (n + 1) 0 (λ x. q (rw x e)) in
          stands_on (set ix z (n + 1)) f p n (λ x. q (sym s ∙ x)) (rw s (b p)) ∙ rw (length-set ix z (n + 1)) (stands_new ix n b f (next_slot (length ix) p) z (sym (free_on ix f p q) ∙ g) h e)
    ]

module _ (src : List ℕ) (w k : ℕ) (t : List ℕ) where
  pub enter_length : (r : ℕ) (ix : List ℕ) → length (enter_row src w k t r ix) ≡ length ix
  unfolding enter_row
  enter_length r ix = length-set ix _ (r + 1)

  pub entries_length : (m n : ℕ) → length (entries src w k t m n) ≡ m
  unfolding entries
  entries_length m zero = length-replicate m 0
  entries_length m (suc n) = enter_length n (entries src w k t m n) ∙ entries_length m n

  pub entered_none : (m : ℕ) → AllStand src w k 0 t (replicate m 0)
  entered_none m = record { each = λ r l. absurd (omega arith); bound = λ p. zeros p (dec_lt p m); taken = filled_none m }
    where
      zeros : (p : ℕ) → Dec (p < m) → get_or (replicate m 0) p 0 ≤ 0
      zeros p (yes l) = rw (get_or-replicate {A = ℕ} m p 0 0 l) (omega arith)
      zeros p (no l) = rw (get_or-eq_default {A = ℕ} (replicate m 0) 0 {n = p} (rw (length-replicate {A = ℕ} m 0) (omega arith))) (omega arith)

  -- One more row is entered, while there are more slots than rows.
  pub enter_kept : (n : ℕ) (ix : List ℕ) → n < length ix → AllStand src w k n t ix → AllStand src w k (suc n) t (enter_row src w k t n ix)
  unfolding enter_row row_stands
  enter_kept n ix l E = go (free_slot ix (length ix) from) refl (free_found ix F.slot from (mod-lt _ (omega arith)) F.there F.free)
    where
      from : ℕ
      from = home src (length ix) (cell w t n k) (cell w t n (k + 1))

      F : Free ix
      F = some_free ix (rw E.taken l)

      go : (z : ℕ) → free_slot ix (length ix) from ≡ z → free_slot ix (length ix) from < length ix → AllStand src w k (suc n) t (set ix (free_slot ix (length ix) from) (n + 1))
      go z g h =
          let e : get_or ix z 0 ≡ 0 = rw g at (free_is ix (length ix) from h) in
          let b : z < length ix = rw g at h in
          rw g
          (record {
            each = λ r i. at z g e b r (ℕ_discrete r n) i;
            bound = λ p. bounded z b p (ℕ_discrete p z);
            taken = filled_more ix z (n + 1) b e (λ x. omega arith) ∙ ap suc E.taken;
          })
        where
          at : (z : ℕ) → free_slot ix (length ix) from ≡ z → get_or ix z 0 ≡ 0 → z < length ix → (r : ℕ) → Dec (r ≡ n) → r < suc n → row_stands src w k t (set ix z (n + 1)) r ≡ true
          at z g e b r (yes q) i = rw (q, length-set ix z (n + 1)) (stands_new ix n E.bound (length ix) from z g b e)
          at z g e b r (no q) i = rw (length-set ix z (n + 1)) (stands_kept ix z (n + 1) r e (length ix) _ (E.each r (omega arith)))

          bounded : (z : ℕ) → z < length ix → (p : ℕ) → Dec (p ≡ z) → get_or (set ix z (n + 1)) p 0 ≤ suc n
          bounded z b p (yes q) = rw (q, get_or-set_same ix z (n + 1) 0 b) (omega arith)
          bounded z b p (no q) = let x = E.bound p in rw (get_or-set_other ix z p (n + 1) 0 q) (omega arith)

  pub entries_entered : (m n : ℕ) → n ≤ m → AllStand src w k n t (entries src w k t m n)
  unfolding entries
  entries_entered m zero h = entered_none m
  entries_entered m (suc n) h = enter_kept n (entries src w k t m n) (rw (entries_length m n) h) (entries_entered m n (omega arith))

-- ---- what the slots tell: n taken slots in which each of n rows stands are the index

-- a slot that holds v
pub record Spot (ix : List ℕ) (v : ℕ) : Type 0 where
  pub slot : ℕ
  pub is : get_or ix slot 0 ≡ v

pub stands_spot : (ix : List ℕ) (r f p : ℕ) → stands ix r f p ≡ true → Spot ix (r + 1)
unfolding stands
stands_spot ix r zero p s = absurd (false≢true s)
stands_spot ix r (suc f) p s = stands_cases ix f p r (Spot ix (r + 1)) s (λ e. record { slot = p; is = e }) (λ d l t. stands_spot ix r f (next_slot (length ix) p) t)

-- each number stands once, and none is above n
pub record Once (n : ℕ) (ix : List ℕ) : Type 0 where
  pub bound : (p : ℕ) → get_or ix p 0 ≤ n
  pub one : (p q : ℕ) → get_or ix p 0 ≡ get_or ix q 0 → (get_or ix p 0 ≡ 0 → ⊥) → p ≡ q

-- n taken slots hold n numbers, so each of them once: the last number's slot is freed, and the rest is so by itself
pub pigeon : (n : ℕ) (ix : List ℕ) → filled ix ≤ n → ((r : ℕ) → r < n → Spot ix (r + 1)) → Once n ix
pigeon zero ix h s =
    let z = filled_nothing ix (omega arith) in
    record { bound = λ p. rw (z p) (omega arith); one = λ p q e d. absurd (d (z p)) }
pigeon (suc n) ix h s = go (s n (omega arith)) (λ z g k. pigeon n (set ix z 0) g k)
  where
    go : (S : Spot ix (n + 1)) → ((z : ℕ) → filled (set ix z 0) ≤ n → ((r : ℕ) → r < n → Spot (set ix z 0) (r + 1)) → Once n (set ix z 0)) → Once (suc n) ix
    go S f = record { bound = λ p. bounded p (ℕ_discrete p S.slot); one = λ p q e d. once p q (ℕ_discrete p S.slot) (ℕ_discrete q S.slot) e d }
      where
        taken : get_or ix S.slot 0 ≡ 0 → ⊥
        taken e = let g = S.is in omega arith

        other : (p : ℕ) → (p ≡ S.slot → ⊥) → get_or (set ix S.slot 0) p 0 ≡ get_or ix p 0
        other p d = get_or-set_other ix S.slot p 0 0 d

        spots : (r : ℕ) → r < n → Spot (set ix S.slot 0) (r + 1)
        spots r l =
            let x = s r (omega arith) in
            record { slot = x.slot; is = other x.slot (λ e. let g = x.is in let i = S.is in let j : get_or ix x.slot 0 ≡ get_or ix S.slot 0 = ap (λ (y : ℕ). get_or ix y 0) e in omega arith) ∙ x.is }

        O : Once n (set ix S.slot 0)
        O = f S.slot (let e = filled_less ix S.slot taken in omega arith) spots

        bounded : (p : ℕ) → Dec (p ≡ S.slot) → get_or ix p 0 ≤ suc n
        bounded p (yes e) = rw (e, S.is) (omega arith)
        bounded p (no e) = let b = O.bound p in let g = other p e in omega arith

        apart : (p : ℕ) → (p ≡ S.slot → ⊥) → get_or ix p 0 ≡ n + 1 → ⊥
        apart p d e = let b = O.bound p in let g = other p d in omega arith

        once : (p q : ℕ) → Dec (p ≡ S.slot) → Dec (q ≡ S.slot) → get_or ix p 0 ≡ get_or ix q 0 → (get_or ix p 0 ≡ 0 → ⊥) → p ≡ q
        once p q (yes a) (yes b) e d = a ∙ sym b
        once p q (yes a) (no b) e d = absurd (apart q b (sym e ∙ ap (λ (y : ℕ). get_or ix y 0) a ∙ S.is))
        once p q (no a) (yes b) e d = absurd (apart p a (e ∙ ap (λ (y : ℕ). get_or ix y 0) b ∙ S.is))
        once p q (no a) (no b) e d = O.one p q (other p a ∙ e ∙ sym (other q b)) (λ z. d (sym (other p a) ∙ z))

-- the index as it was when k rows were entered: later rows' slots are free
keep : ℕ → ℕ → ℕ
keep k v = elim (leb v k) [ true ↦ v | false ↦ 0 ]

keep_low : (k v : ℕ) → v ≤ k → keep k v ≡ v
unfolding keep
keep_low k v h = rw (le-leb v k h, keep)

keep_high : (k v : ℕ) → k < v → keep k v ≡ 0
unfolding keep
keep_high k v h = rw (lt-leb v k h, keep)

cut : ℕ → List ℕ → List ℕ
cut k [] = []
cut k (v ∷ vs) = keep k v ∷ cut k vs

cut_length : (k : ℕ) (ix : List ℕ) → length (cut k ix) ≡ length ix
unfolding cut
cut_length k [] = refl
cut_length k (v ∷ vs) = ap suc (cut_length k vs)

cut_at : (k : ℕ) (ix : List ℕ) (p : ℕ) → get_or (cut k ix) p 0 ≡ keep k (get_or ix p 0)
unfolding cut
cut_at k [] p = get_or-eq_default [] 0 {n = p} (omega arith) ∙ sym (ap (keep k) (get_or-eq_default [] 0 {n = p} (omega arith)) ∙ keep_low k 0 (omega arith))
cut_at k (v ∷ vs) zero = refl
cut_at k (v ∷ vs) (suc p) = cut_at k vs p

cut_none : (ix : List ℕ) → replicate (length ix) 0 ≡ cut 0 ix
unfolding cut
cut_none [] = refl
cut_none (v ∷ vs) = let e : keep 0 v ≡ 0 = ⊎_elim (λ l. keep_low 0 v l ∙ omega arith) (keep_high 0 v) (le_or_lt v 0) in let g = cut_none vs in rw (e, g)

cut_all : (n : ℕ) (ix : List ℕ) → ((p : ℕ) → get_or ix p 0 ≤ n) → cut n ix ≡ ix
cut_all n ix b = ext_get_or 0 (cut n ix) ix (cut_length n ix) (λ p l. cut_at n ix p ∙ keep_low n (get_or ix p 0) (b p))

-- the first slot that was free then holds row k now
cut_free : (ix : List ℕ) (k f p : ℕ) → stands ix k f p ≡ true → get_or ix (free_slot (cut k ix) f p) 0 ≡ k + 1
unfolding stands
cut_free ix k zero p s = absurd (false≢true s)
cut_free ix k (suc f) p s =
    stands_cases ix f p k (get_or ix (free_slot (cut k ix) (suc f) p) 0 ≡ k + 1) s
    (λ e. rw (free_here (cut k ix) f p (cut_at k ix p ∙ keep_high k (get_or ix p 0) (omega arith))) e)
    (λ d l t. rw (free_on (cut k ix) f p (λ z. d (sym (cut_at k ix p ∙ keep_low k (get_or ix p 0) l) ∙ z)), cut_length k ix) (cut_free ix k f (next_slot (length ix) p) t))

-- and taking it gives the index as it was with one row more
cut_next : (n k z : ℕ) (ix : List ℕ) → Once n ix → get_or ix z 0 ≡ k + 1 → set (cut k ix) z (k + 1) ≡ cut (suc k) ix
cut_next n k z ix O e = ext_get_or 0 (set (cut k ix) z (k + 1)) (cut (suc k) ix) (length-set (cut k ix) z (k + 1) ∙ cut_length k ix ∙ sym (cut_length (suc k) ix)) (λ p l. at p (ℕ_discrete p z) l)
  where
    at : (p : ℕ) → Dec (p ≡ z) → p < length (set (cut k ix) z (k + 1)) → get_or (set (cut k ix) z (k + 1)) p 0 ≡ get_or (cut (suc k) ix) p 0
    at p (yes q) l =
        rw q
        (get_or-set_same (cut k ix) z (k + 1) 0 (rw (length-set, q) at l)
        ∙ sym (cut_at (suc k) ix z ∙ ap (keep (suc k)) e ∙ keep_low (suc k) (k + 1) (omega arith)))
    at p (no q) l =
        get_or-set_other (cut k ix) z p (k + 1) 0 q
        ∙ cut_at k ix p
        ∙ ⊎_elim (λ h. keep_low k (get_or ix p 0) h ∙ sym (keep_low (suc k) (get_or ix p 0) (omega arith)))
        (λ h. keep_high k (get_or ix p 0) h ∙ sym (keep_high (suc k) (get_or ix p 0) (let d : get_or ix p 0 ≡ k + 1 → ⊥ = λ x. q (O.one p z (x ∙ sym e) (λ y. omega arith)) in omega arith)))
        (le_or_lt (get_or ix p 0) k)
        ∙ sym (cut_at (suc k) ix p)

module _ (src : List ℕ) (w k : ℕ) (t : List ℕ) where
  rebuilt : (n : ℕ) (ix : List ℕ) → Once n ix → ((r : ℕ) → r < n → row_stands src w k t ix r ≡ true) → (i : ℕ) → i ≤ n → entries src w k t (length ix) i ≡ cut i ix
  unfolding entries enter_row row_stands
  rebuilt n ix O s zero h = cut_none ix
  rebuilt n ix O s (suc i) h =
      rw (rebuilt n ix O s i (omega arith), cut_length i ix)
      (cut_next n i _ ix O (cut_free ix i (length ix) (home src (length ix) (cell w t i k) (cell w t i (k + 1))) (s i h)))

  pub slots_index : (n : ℕ) (ix : List ℕ) → filled ix ≡ n → ((r : ℕ) → r < n → row_stands src w k t ix r ≡ true) → ix ≡ entries src w k t (length ix) n
  unfolding row_stands
  slots_index n ix h s =
      let O = pigeon n ix (omega arith) (λ r l. stands_spot ix r (length ix) _ (s r l)) in
      sym (rebuilt n ix O s n (omega arith) ∙ cut_all n ix O.bound)

-- ---- the theorems

module _ (src : List ℕ) (w k n : ℕ) (t ix : List ℕ) where
  -- "A lookup gives the same row as the search for every name, absent ones too."
  pub lookup_is_search : Indexed src w k n t ix → n ≤ length ix → (a b : ℕ) → lookup src w k t ix a b ≡ find_name src w k n t a b
  lookup_is_search I h = lookup_found src w k t n ix (rw (← I.holds) at (entries_entered src w k t (length ix) n h))

  -- The test that reads the index tells whether it is what entering gives.
  pub index_iff : n ≤ length ix → (index_test src w k n t ix ≡ true) ↔ Indexed src w k n t ix
  unfolding index_test
  index_iff h = (go (eqb (filled ix) n) refl, back)
    where
      go : (b : Bool) → eqb (filled ix) n ≡ b → (b && below n (row_stands src w k t ix)) ≡ true → Indexed src w k n t ix
      go true e s = record { holds = slots_index src w k t n ix (eqb-true _ _ e) (below_each (row_stands src w k t ix) n s) }
      go false e s = absurd (false≢true s)

      back : Indexed src w k n t ix → index_test src w k n t ix ≡ true
      back I =
          let E : AllStand src w k n t ix = rw (← I.holds) at (entries_entered src w k t (length ix) n h) in
          rw (eq-eqb _ _ E.taken) (each_below (row_stands src w k t ix) n E.each)

-- an index of zeros is that of no rows
pub indexed_none : (src : List ℕ) (w k : ℕ) (t ix : List ℕ) → Indexed src w k 0 t (zeroed ix)
unfolding entries
indexed_none src w k t ix = record { holds = rw (length-replicate {A = ℕ} (length ix) 0) }

-- only the names of the rows count
pub entries_same : (src : List ℕ) (w k : ℕ) (t u : List ℕ) (m n : ℕ) → ((r : ℕ) → r < n → (cell w u r k ≡ cell w t r k) × (cell w u r (k + 1) ≡ cell w t r (k + 1))) → entries src w k u m n ≡ entries src w k t m n
unfolding entries enter_row
entries_same src w k t u m zero f = refl
entries_same src w k t u m (suc n) f =
    let e = entries_same src w k t u m n (λ r l. f r (omega arith)) in
    let g = f n (omega arith) in
    rw (e, g.0, g.1)

-- a cell lies in one row, at one place
cell_one : (w q r j c : ℕ) → j < w → c < w → q * w + j ≡ r * w + c → j ≡ c
cell_one w q r j c h l e =
    elim (ℕ_discrete q r) [
      | yes x ↦ let y : q * w ≡ r * w = ap (λ (z : ℕ). z * w) x in omega arith
      | no x ↦
          elim (dec_lt q r) [
            | yes y ↦ let b = row_below w q r y in absurd (omega arith)
            | no y ↦ let b = row_below w r q (omega arith) in absurd (omega arith)
          ]
    ]

module _ (src : List ℕ) (w k n : ℕ) (t ix : List ℕ) (I : Indexed src w k n t ix) where
  pub indexed_same : (u : List ℕ) → ((r : ℕ) → r < n → (cell w u r k ≡ cell w t r k) × (cell w u r (k + 1) ≡ cell w t r (k + 1))) → Indexed src w k n u ix
  indexed_same u f = record { holds = I.holds ∙ sym (entries_same src w k t u (length ix) n f) }

  -- a cell that is no name's is set
  pub indexed_set : (r c v : ℕ) → c < w → k + 1 < w → (c ≡ k → ⊥) → (c ≡ k + 1 → ⊥) → Indexed src w k n (set t (r * w + c) v) ix
  indexed_set r c v b l d e = indexed_same (set t (r * w + c) v) (λ q h. (other q k (omega arith) d, other q (k + 1) l e))
    where
      other : (q j : ℕ) → j < w → (c ≡ j → ⊥) → cell w (set t (r * w + c) v) q j ≡ cell w t q j
      other q j h d = get_or-set_other t (r * w + c) (q * w + j) v 0 (λ x. d (sym (cell_one w q r j c h b x)))

  -- a row is added and entered
  pub indexed_add : (row : List ℕ) → length row ≡ w → n * w + w ≤ length t → k + 1 < w → Indexed src w k (n + 1) (put t (n * w) row) (enter_row src w k (put t (n * w) row) n ix)
  unfolding entries
  indexed_add row wide fits l =
      let e : Indexed src w k n (put t (n * w) row) ix = indexed_same (put t (n * w) row) (λ r h. (cell_old w n row t wide fits r k h (omega arith), cell_old w n row t wide fits r (k + 1) h l)) in
      rw (add-one n) (record { holds = subst (λ (m : ℕ). enter_row src w k (put t (n * w) row) n ix ≡ entries src w k (put t (n * w) row) m (suc n)) (sym (enter_length src w k (put t (n * w) row) n ix)) (ap (enter_row src w k (put t (n * w) row) n) e.holds) })
