-- The first fault of parts one behind the other; and in the order of rules, found in one pass over the productions: that of the foremost rule that has one. Assumes nothing.
use Rattle.std.specs.Prelude.{Option, Result, Ok, Err}
use Prim.Native.Nat.{ℕ, zero, suc, ◌+◌, ◌≤◌, ◌<◌}
use mathlib.Core.Path.{◌≡◌, refl, sym, ap, ◌∙◌}
use mathlib.Core.List.{List, [], ◌∷◌, ◌++◌}
use mathlib.Core.Bool.{Bool, true, false}
use native.Mathlib.Omega.{arith}
use native.Mathlib.Numerals.{add-one}
use native.Mathlib.Decide.{ℕ_discrete}
use borrow.Author.Tests.{eq-eqb, ne_eqb}
use lib.Dec.{eqb}
use Rattle.tables.specs.Layout.{tokens, precedences, implicit, epps, unused, rules, productions, width}
use Rattle.grammar.specs.declared.Counts.{Counts}
use Rattle.grammar.specs.declared.Singles.{Singles}
use Rattle.sound.specs.Test.{count_at}
use Rattle.validation.specs.Faults.{first, upto, of_rule, start_faults, rules_faults, epps_faults, kinds_faults, faults}
use Rattle.validation.specs.Walk.{failing, verdict}
use Rattle.validation.specs.declared.Flaw.{Flaw}
use Rattle.validation.specs.declared.ValidityError.{ValidityError}
use Rattle.validation.specs.declared.ValidityError.TheVariants.{Invalid}
use Rattle.validation.proofs.Laws.{first_none, faults_are}

append_none : (xs : List Flaw) → xs ++ [] ≡ xs
append_none [] = refl
append_none (x ∷ xs) = ap (λ (ys : List Flaw). x ∷ ys) (append_none xs)

of_none : (b : Bool) → of_rule b [] ≡ []
of_none true = refl
of_none false = refl

first_some : (fs : List Flaw) (x : Flaw) → first fs ≡ Err (Invalid x) → (rest : List Flaw) × (fs ≡ x ∷ rest)
first_some [] x e = let z : ◌≡◌ {A = ℕ} 0 1 = cc in absurd (omega arith)
first_some (f ∷ fs) x e = let z : f ≡ x = cc in (fs, ap (λ (y : Flaw). y ∷ fs) z)

-- a part and what is behind it
module _ (fs gs hs : List Flaw) (e : fs ++ gs ≡ hs) where
  first_behind : fs ≡ [] → first gs ≡ first hs
  first_behind n = rw (← e, n)

  first_before : (v : Result (Unit {0}) Flaw) → verdict v ≡ first fs → (x : Flaw) → v ≡ Err x → Err (Invalid x) ≡ first hs
  first_before v h x m = let d = first_some fs x (sym h ∙ rw m) in rw (← e, d.1)

part_met : (v : Result (Unit {0}) Flaw) (fs : List Flaw) → verdict v ≡ first fs → v ≡ Ok tt → fs ≡ []
part_met v fs h m = first_none fs (sym h ∙ rw m)

-- a part that is one test
pub start_met : (v : Result (Unit {0}) Flaw) (gs hs : List Flaw) → failing v ++ gs ≡ hs → v ≡ Ok tt → (w : Result (Unit {0}) Flaw) → verdict w ≡ first gs → verdict w ≡ first hs
start_met v gs hs e m w h = h ∙ first_behind (failing v) gs hs e (rw m)

pub start_failed : (src : List ℕ) (p : Option (ℕ × ℕ)) (t7 : List ℕ) (n m : ℕ) (v : Result (Unit {0}) Flaw) → failing v ≡ start_faults src p t7 n → n ≡ m → (x : Flaw) → v ≡ Err x → (gs : List Flaw) → Err (Invalid x) ≡ first (start_faults src p t7 m ++ gs)
start_failed src p t7 n m v e h x f gs = let d : failing v ≡ start_faults src p t7 m = e ∙ rw h in rw (← d, f)

-- lists one behind the other: all empty, or the first that is not
upto_none : (l : ℕ) (g : ℕ → List Flaw) → ((j : ℕ) → j < l → g j ≡ []) → upto l g ≡ []
unfolding upto
upto_none zero g h = refl
upto_none (suc l) g h = rw (upto_none l g (λ j k. h j (omega arith)), h l (omega arith))

upto_some : (l : ℕ) (g : ℕ → List Flaw) (k : ℕ) → k < l → ((j : ℕ) → j < k → g j ≡ []) → (x : Flaw) (xs : List Flaw) → g k ≡ x ∷ xs → (ys : List Flaw) × (upto l g ≡ x ∷ ys)
unfolding upto
upto_some zero g k i h x xs e = absurd (omega arith)
upto_some (suc l) g k i h x xs e =
    elim (ℕ_discrete k l) [
      | yes d ↦ (xs, rw (upto_none l g (λ j q. h j (omega arith)), ← d, e))
      | no d ↦ let r = upto_some l g k (omega arith) h x xs e in (r.0 ++ g l, rw r.1)
    ]

module _ (faults_of : ℕ → List Flaw) (rule : ℕ → ℕ) (l : ℕ) where
  -- the faults of rule j among p productions
  abbrev pub among : ℕ → ℕ → List Flaw
  among p j = upto p (λ r. of_rule (eqb (rule r) j) (faults_of r))

  among_on : (p j : ℕ) → among (p + 1) j ≡ among p j ++ of_rule (eqb (rule p) j) (faults_of p)
  unfolding upto
  among_on p j = rw (add-one p)

  among_met : (p j : ℕ) → faults_of p ≡ [] → among (p + 1) j ≡ among p j
  among_met p j e = among_on p j ∙ rw (e, of_none (eqb (rule p) j), append_none (among p j))

  among_other : (p j : ℕ) → (rule p ≡ j → ⊥) → among (p + 1) j ≡ among p j
  among_other p j e = among_on p j ∙ rw (ne_eqb (rule p) j e, append_none (among p j))

  -- none of the rules before the owner has a fault, and the owner has the best one first; without an owner there is none
  pub record Foremost (p owner : ℕ) (best : Result (Unit {0}) Flaw) : Type 0 where
    pub low : owner ≤ l
    pub before : (j : ℕ) → j < owner → among p j ≡ []
    pub here : (owner < l) → (x : Flaw) × (xs : List Flaw) × (among p owner ≡ x ∷ xs) × (best ≡ Err x)
    pub none : owner ≡ l → best ≡ Ok tt

  pub foremost_start : Foremost 0 l (Ok tt)
  unfolding upto
  foremost_start = record { low = omega arith; before = λ j h. refl; here = λ h. absurd (omega arith); none = λ h. refl }

  module _ (p owner : ℕ) (best : Result (Unit {0}) Flaw) (f : Foremost p owner best) where
    -- a production of a rule that is not before the owner
    pub foremost_behind : (k : ℕ) → k ≡ rule p → owner ≤ k → Foremost (p + 1) owner best
    foremost_behind k q h =
        record {
          low = f.low;
          before = λ j i. among_other p j (λ e. omega arith) ∙ f.before j i;
          here = λ i. let o = f.here i in (o.0, o.1 ++ of_rule (eqb (rule p) owner) (faults_of p), among_on p owner ∙ rw o.2, o.3);
          none = f.none;
        }

    -- one without a fault
    pub foremost_met : (v : Result (Unit {0}) Flaw) → verdict v ≡ first (faults_of p) → v ≡ Ok tt → Foremost (p + 1) owner best
    foremost_met v e m =
        let n : faults_of p ≡ [] = first_none (faults_of p) (sym e ∙ rw m) in
        record {
          low = f.low;
          before = λ j k. among_met p j n ∙ f.before j k;
          here = λ k. let o = f.here k in (o.0, o.1, among_met p owner n ∙ o.2, o.3);
          none = f.none;
        }

    -- one with a fault
    with_fault : (x : Flaw) (xs : List Flaw) → faults_of p ≡ x ∷ xs → rule p < owner → Foremost (p + 1) (rule p) (Err x)
    with_fault x xs e h =
        record {
          low = let k = f.low in omega arith;
          before = λ j k. among_other p j (λ z. omega arith) ∙ f.before j (omega arith);
          here = λ k. (x, xs, among_on p (rule p) ∙ rw (f.before (rule p) h, eq-eqb (rule p) (rule p) refl) e, refl);
          none = λ z. let k = f.low in absurd (omega arith);
        }

    pub foremost_failed : (v : Result (Unit {0}) Flaw) → verdict v ≡ first (faults_of p) → (x : Flaw) → v ≡ Err x → (k : ℕ) → k ≡ rule p → k < owner → Foremost (p + 1) k (Err x)
    foremost_failed v e x m k q h = let d = first_some (faults_of p) x (sym e ∙ rw m) in rw q (with_fault x d.0 d.1 (omega arith))

    -- behind the last production
    pub foremost_first : (n : ℕ) → p ≡ n → verdict best ≡ first (upto l (among n))
    foremost_first n q = rw (← q) all
      where
        all : verdict best ≡ first (upto l (among p))
        all =
            elim (ℕ_discrete owner l) [
              | yes e ↦ rw (f.none e, upto_none l (among p) (λ j k. f.before j (omega arith)))
              | no e ↦ let o = f.here (let k = f.low in omega arith) in let u = upto_some l (among p) owner (let k = f.low in omega arith) f.before o.0 o.1 o.2 in rw (o.3, u.1)
            ]

-- start and rules, then the names
module _ (src : List ℕ) (c : Counts) (g : Singles) (t1 t2 t4 t5 t6 t7 t8 t9 : List ℕ) (v : Result (Unit {0}) Flaw) (h : verdict v ≡ first (start_faults src g.start t7 (count_at c rules) ++ rules_faults src t1 (count_at c tokens) t2 (count_at c precedences) t7 (count_at c rules) t8 t9 (count_at c productions))) where
  pub faults_behind : v ≡ Ok tt → (w : Result (Unit {0}) ValidityError) → w ≡ first (epps_faults src t1 (count_at c tokens) t4 (count_at c implicit) t5 (count_at c epps) ++ kinds_faults src (width unused) t6 t1 (count_at c tokens) t7 (count_at c rules) 0 (count_at c unused)) → w ≡ first (faults src c g t1 t2 t4 t5 t6 t7 t8 t9)
  faults_behind m w e = e ∙ first_behind (start_faults src g.start t7 (count_at c rules) ++ rules_faults src t1 (count_at c tokens) t2 (count_at c precedences) t7 (count_at c rules) t8 t9 (count_at c productions)) _ _ (faults_are src c g t1 t2 t4 t5 t6 t7 t8 t9) (part_met v _ h m)

  pub faults_before : (x : Flaw) → v ≡ Err x → Err (Invalid x) ≡ first (faults src c g t1 t2 t4 t5 t6 t7 t8 t9)
  faults_before x m = first_before (start_faults src g.start t7 (count_at c rules) ++ rules_faults src t1 (count_at c tokens) t2 (count_at c precedences) t7 (count_at c rules) t8 t9 (count_at c productions)) _ _ (faults_are src c g t1 t2 t4 t5 t6 t7 t8 t9) v h x m
