-- What slots that guide tell: a row that stands in for another, and a name met by them. Assumes nothing.
use Rattle.std.specs.Prelude.{Option, Some, None}
use Prim.Native.Nat.{ℕ, ◌+◌, ◌≤◌}
use mathlib.Core.Path.{◌≡◌, refl, sym, ◌∙◌}
use mathlib.Core.List.{List}
use mathlib.Core.Bool.{Bool, true, false, false≢true}
use native.Mathlib.Omega.{arith}
use native.Mathlib.Decide.{ℕ_discrete}
use borrow.Author.Tests.{eq-eqb, eqb-true}
use lib.ListN.{length}
use lib.Dec.{eqb}
use Rattle.tables.specs.Table.{cell, has_name}
use Rattle.tables.proofs.Cases.{same_part_trans}
use Rattle.finder.specs.declared.Sought.{Sought}
use Rattle.finder.specs.declared.Sought.TheVariants.{Seated}
use Rattle.finder.specs.Finder.{mark_of, LeadsTo, LedOf, Met, Tells, Grown}
use Rattle.finder.proofs.Laws.{mark_some, leads_grown}
use Rattle.usage.specs.Report.{Excuses, Expects, Expected, Implicit, StandIn, ExpectedLed, Guides}

-- the kind is known
pub guides_kind : (x : Excuses) (fx : List ℕ) (k j : ℕ) → k ≡ j → Guides x j fx → Guides x k fx
guides_kind x fx k j e g = rw e g

-- a row of table 6 that stands in for another
module _ (src t : List ℕ) where
  pub stand_in_grown : (n m kd r : ℕ) (ix jx : List ℕ) → n ≤ m → Grown ix jx → StandIn src t n kd r ix → StandIn src t m kd r jx
  stand_in_grown n m kd r ix jx l G S =
      record {
        row = S.row;
        there = omega (arith, S.there);
        kind = S.kind;
        same = S.same;
        leads = rw G.size (leads_grown ix jx (mark_of S.row) (mark_some S.row) G (length ix) _ S.leads);
      }

  pub stand_in_self : (kd r : ℕ) (jx : List ℕ) → cell 3 t r 0 ≡ kd → LeadsTo src 3 1 t jx r → StandIn src t (r + 1) kd r jx
  stand_in_self kd r jx e L = record { row = r; there = omega arith; kind = e; same = λ a b h. h; leads = L }

  -- one row more
  pub stand_ins_more : (n kd : ℕ) (ix jx : List ℕ) → ExpectedLed src t n kd ix → Grown ix jx → (cell 3 t n 0 ≡ kd → StandIn src t (n + 1) kd n jx) → ExpectedLed src t (n + 1) kd jx
  stand_ins_more n kd ix jx L G N r l e =
      elim (ℕ_discrete r n) [ yes x ↦ rw x (N (rw x at e)) | no x ↦ stand_in_grown n (n + 1) kd r ix jx (omega arith) G (L r (omega arith) e) ]

  -- the slots tell of a row before it
  pub stand_in_told : (kd r a b : ℕ) (ix : List ℕ) (s : Sought) → a ≡ cell 3 t r 1 → b ≡ cell 3 t r 2 → Tells (λ (q : ℕ). false) src 3 1 r t ix a b s → (q v : ℕ) → s ≡ Seated q → v ≡ cell 3 t q 0 → eqb v kd ≡ true → StandIn src t r kd r ix
  unfolding has_name
  stand_in_told kd r a b ix s x y T q v e f g =
      let m = rw e at T in
      record {
        row = q;
        there = m.0;
        kind = sym f ∙ eqb-true v kd g;
        same = λ c d h. same_part_trans src _ _ (cell 3 t r 1) (cell 3 t r 2) c d (rw (← x, ← y) m.1) h;
        leads = m.2;
      }

-- a name met in table 6, or none
module _ (src t : List ℕ) (n kd a b : ℕ) (f : Option ℕ) where
  pub expected_met : (e : ℕ) → Met (λ (q : ℕ). false) src 3 1 n t a b f → f ≡ Some e → Expects src t kd a b e → Expected src t n kd a b
  expected_met e M h x = let m = rw h at M in record { entry = e; there = m.0; expects = x }

  pub expected_none : (fx : List ℕ) → ((asked : ℕ → Bool) → LedOf asked src 3 1 n t fx → Met asked src 3 1 n t a b f) → ExpectedLed src t n kd fx → f ≡ None → Expected src t n kd a b → ⊥
  expected_none fx M L h x =
      let S = L x.entry x.there x.expects.kind in
      let m = rw h at (M (λ (q : ℕ). eqb q S.row) (λ r l y. rw (eqb-true r S.row y) S.leads)) in
      false≢true (sym (m S.row S.there (eq-eqb S.row S.row refl)) ∙ S.same a b x.expects.same)

-- and in table 4
module _ (src t : List ℕ) (n kd a b : ℕ) (f : Option ℕ) (M : Met (λ (r : ℕ). true) src 2 0 n t a b f) where
  pub implicit_met : (e : ℕ) → kd ≡ 2 → f ≡ Some e → Implicit src t n kd a b
  implicit_met e k h = let m = rw h at M in record { token = k; entry = e; there = m.0; same = m.1 }

  pub implicit_none : f ≡ None → Implicit src t n kd a b → ⊥
  implicit_none h x =
      let m = rw h at M in
      false≢true (sym (m x.entry x.there refl) ∙ x.same)
