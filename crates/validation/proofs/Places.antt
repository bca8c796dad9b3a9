-- The place of every fault of sound tables lies in the source. Assumes nothing.
use Rattle.std.specs.Prelude.{Option, Some, None, Err}
use Prim.Native.Nat.{ℕ, zero, suc, ◌+◌, ◌-◌, ◌≤◌, ◌<◌}
use mathlib.Core.Path.{◌≡◌, refl}
use mathlib.Core.List.{List, [], ◌∷◌, ◌++◌}
use mathlib.Core.Bool.{Bool, true, false, ◌||◌}
use mathlib.Core.Logic.{⊎_elim}
use native.Mathlib.Omega.{arith}
use borrow.Author.Tests.{eqb-true}
use lib.Dec.{eqb}
use lib.ListN.{length, get_or}
use Rattle.scan.proofs.Bytes.{told}
use Rattle.tables.specs.Table.{cell}
use Rattle.tables.specs.Layout.{tokens, precedences, implicit, epps, unused, rules, productions, symbols, key_name, rule_row, symbols_from, symbols_to, prec, kind_name, width}
use Rattle.tables.proofs.Ends.{chained_inside}
use Rattle.tables.proofs.Rows.{row_cell}
use Rattle.grammar.specs.declared.Counts.{Counts}
use Rattle.grammar.specs.declared.Singles.{Singles}
use Rattle.grammar.specs.State.{Passed}
use Rattle.grammar.specs.Sound.{Tables, Indexes, Given, Lies, Sound}
use Rattle.productions.specs.Cells.{cell_of, prec_of, production_at}
use Rattle.sound.specs.Test.{count_at}
use Rattle.sound.proofs.Iff.{sound_iff}
use Rattle.validation.specs.Faults.{flaw_numbers, upto, unless, known, start_faults, prec_given, prec_faults, name_faults, kind_faults, kinds_faults, production_faults, of_rule, rule_faults, rules_faults, epp_faults, epps_faults, faults, validity}
use Rattle.validation.specs.Places.{FaultInside, FaultsInside}
use Rattle.validation.specs.declared.Flaw.{Flaw}
use Rattle.validation.specs.declared.Flaw.TheVariants.{NoStartRule, InvalidStartRule, UnknownRuleRef, UnknownTokenRef, UnknownPrecToken, NoPrecForToken, UnknownEppKey}
use Rattle.validation.specs.declared.ValidityError.TheVariants.{Invalid}
use Rattle.validation.proofs.Order.{validity_flaw}

-- ---- lists of faults

module _ (src : List ℕ) where
  each_append : (xs ys : List Flaw) → FaultsInside src xs → FaultsInside src ys → FaultsInside src (xs ++ ys)
  each_append [] ys p q = q
  each_append (x ∷ xs) ys p q = (p.0, each_append xs ys p.1 q)

  each_upto : (n : ℕ) (f : ℕ → List Flaw) → ((k : ℕ) → k < n → FaultsInside src (f k)) → FaultsInside src (upto n f)
  unfolding upto
  each_upto zero f h = tt
  each_upto (suc n) f h = each_append (upto n f) (f n) (each_upto n f (λ k l. h k (omega arith))) (h n (omega arith))

  each_unless : (b : Bool) (f : Flaw) → FaultInside src f → FaultsInside src (unless b f)
  each_unless true f p = tt
  each_unless false f p = (p, tt)

  each_of_rule : (b : Bool) (fs : List Flaw) → FaultsInside src fs → FaultsInside src (of_rule b fs)
  each_of_rule true fs p = p
  each_of_rule false fs p = tt

-- ---- the tests one by one

-- a `%prec` name's place
abbrev LiesPrec : List ℕ → Option (ℕ × ℕ) → Type 0
LiesPrec src None = Unit {0}
LiesPrec src (Some (a, b)) = Passed src a b

prec_lies : (src : List ℕ) (f a b : ℕ) → Given src f a b → LiesPrec src (prec_of f a b)
unfolding prec_of
prec_lies src f a b g = go (eqb f 1) refl
  where
    go : (q : Bool) → eqb f 1 ≡ q → LiesPrec src (elim q [ true ↦ Some (a, b) | false ↦ None ])
    go true e = ⊎_elim (λ x. let z = eqb-true f 1 e in let y = x.0 in absurd (omega arith)) (λ x. x.1) g
    go false e = tt

module _ (src : List ℕ) where
  start_inside : (t7 : List ℕ) (p : Option (ℕ × ℕ)) (n : ℕ) → Lies src p → FaultsInside src (start_faults src p t7 n)
  start_inside t7 None n l = (record { onward = omega arith; inside = omega arith }, tt)
  start_inside t7 (Some (a, b)) n l = each_unless src (known src t7 (width rules) n a b) (InvalidStartRule a b) l

  prec_inside : (t1 t2 : List ℕ) (p : Option (ℕ × ℕ)) (n m : ℕ) → LiesPrec src p → FaultsInside src (prec_faults src p t1 n t2 m)
  prec_inside t1 t2 None n m l = tt
  prec_inside t1 t2 (Some (a, b)) n m l = go (known src t1 (width tokens) n a b) (known src t2 (width precedences) m a b)
    where
      go : (q k : Bool) → FaultsInside src (prec_given q k a b)
      go false k = (l, tt)
      go true k = each_unless src k (NoPrecForToken a b) l

  name_inside : (t1 t7 : List ℕ) (kind a b n m : ℕ) → Passed src a b → FaultsInside src (name_faults src kind a b t1 n t7 m)
  unfolding name_faults
  name_inside t1 t7 kind a b n m l = go (eqb kind 1)
    where
      go : (q : Bool) → FaultsInside src (elim q [ true ↦ unless (known src t7 (width rules) m a b) (UnknownRuleRef a b) | false ↦ unless (known src t1 (width tokens) n a b) (UnknownTokenRef a b) ])
      go true = each_unless src (known src t7 (width rules) m a b) (UnknownRuleRef a b) l
      go false = each_unless src (known src t1 (width tokens) n a b) (UnknownTokenRef a b) l

  epp_inside : (t1 t4 t5 : List ℕ) (n m r : ℕ) → Passed src (cell (width epps) t5 r 0) (cell (width epps) t5 r 1) → FaultsInside src (epp_faults src t1 n t4 m t5 r)
  unfolding epp_faults
  epp_inside t1 t4 t5 n m r l =
      each_unless src
      (known src t1 (width tokens) n (cell (width epps) t5 r key_name) (cell (width epps) t5 r (key_name + 1)) || known src t4 (width implicit) m (cell (width epps) t5 r key_name) (cell (width epps) t5 r (key_name + 1)))
      (UnknownEppKey (cell (width epps) t5 r 0) (cell (width epps) t5 r 1))
      l

  -- rows of table 6 or 9 with their names in the source
  kinds_inside : (t1 t7 t : List ℕ) (w n m from to : ℕ) → ((r : ℕ) → r < to → Passed src (cell w t r kind_name) (cell w t r (kind_name + 1))) → FaultsInside src (kinds_faults src w t t1 n t7 m from to)
  unfolding kinds_faults kind_faults
  kinds_inside t1 t7 t w n m from to h = each_upto src (to - from) _ (λ i l. name_inside t1 t7 (cell w t (from + i) 0) _ _ n m (h (from + i) (omega arith)))

-- ---- all of them

module _ (src : List ℕ) (c : Counts) (g : Singles) (T : Tables) (X : Indexes) where
  abbrev all : List Flaw
  all = faults src c g T.t1 T.t2 T.t4 T.t5 T.t6 T.t7 T.t8 T.t9

  pub faults_inside : Sound src c g T X → FaultsInside src all
  unfolding faults rules_faults rule_faults production_faults production_at epps_faults
  faults_inside s =
      each_append src (start_faults src g.start T.t7 (count_at c rules)) _ (start_inside src T.t7 g.start (count_at c rules) s.singles.start)
      (each_append src (rules_faults src T.t1 (count_at c tokens) T.t2 (count_at c precedences) T.t7 (count_at c rules) T.t8 T.t9 (count_at c productions)) _
      (each_upto src (count_at c rules) _ (λ k h. each_upto src (count_at c productions) _ (λ r l. each_of_rule src (eqb (cell_of T.t8 r rule_row) k) _ (production r l))))
      (each_append src (epps_faults src T.t1 (count_at c tokens) T.t4 (count_at c implicit) T.t5 (count_at c epps)) _ (each_upto src (count_at c epps) _ (λ r l. epp_inside src T.t1 T.t4 T.t5 (count_at c tokens) (count_at c implicit) r (key r l)))
      (kinds_inside src T.t1 T.t7 T.t6 (width unused) (count_at c tokens) (count_at c rules) 0 (count_at c unused) expected)))
    where
      expected : (r : ℕ) → r < count_at c unused → Passed src (cell (width unused) T.t6 r kind_name) (cell (width unused) T.t6 r (kind_name + 1))
      expected r l = rw (← row_cell (width unused) T.t6 r kind_name (omega arith), ← row_cell (width unused) T.t6 r (kind_name + 1) (omega arith)) (s.rows unused r (omega arith) l).name

      symbol : (r : ℕ) → r < count_at c symbols → Passed src (cell (width symbols) T.t9 r kind_name) (cell (width symbols) T.t9 r (kind_name + 1))
      symbol r l = rw (← row_cell (width symbols) T.t9 r kind_name (omega arith), ← row_cell (width symbols) T.t9 r (kind_name + 1) (omega arith)) (s.rows symbols r (omega arith) l).name

      key : (r : ℕ) → r < count_at c epps → Passed src (cell (width epps) T.t5 r 0) (cell (width epps) T.t5 r 1)
      key r l = rw (← row_cell (width epps) T.t5 r 0 (omega arith), ← row_cell (width epps) T.t5 r 1 (omega arith)) (s.rows epps r (omega arith) l).key

      named : (r : ℕ) → r < count_at c productions → LiesPrec src (production_at T.t8 r).prec
      named r l =
          prec_lies src _ _ _
          (rw (← row_cell (width productions) T.t8 r prec (omega arith), ← row_cell (width productions) T.t8 r (prec + 1) (omega arith), ← row_cell (width productions) T.t8 r (prec + 2) (omega arith))
          (s.rows productions r (omega arith) l).precedence)

      production : (r : ℕ) → r < count_at c productions → FaultsInside src (production_faults src T.t1 (count_at c tokens) T.t2 (count_at c precedences) T.t7 (count_at c rules) T.t8 T.t9 r)
      production r l =
          let i = chained_inside (width productions) symbols_from symbols_to (count_at c productions) T.t8 (count_at c symbols) s.ranges r l (omega arith) in
          each_append src (prec_faults src (production_at T.t8 r).prec T.t1 (count_at c tokens) T.t2 (count_at c precedences)) _ (prec_inside src T.t1 T.t2 (production_at T.t8 r).prec (count_at c tokens) (count_at c precedences) (named r l))
          (kinds_inside src T.t1 T.t7 T.t9 (width symbols) (count_at c tokens) (count_at c rules) _ _ (λ k h. symbol k (omega (arith, i, h))))

  -- so that validation's answer is at 0..0 or at a place of the source
  pub flaw_inside : (f : Flaw) → validity src c g T X ≡ Err (Invalid f) → (length src ≤ 65536) × Passed src (get_or (flaw_numbers f) 1 0) (get_or (flaw_numbers f) 2 0)
  flaw_inside f e =
      let v = (validity_flaw src c g T X f).0 e in
      let s = (sound_iff src c g T X).0 v.0 in
      let h : FaultsInside src (f ∷ v.1) = told (FaultsInside src) v.2 (faults_inside s) in
      (s.short, at f h.0)
    where
      at : (x : Flaw) → FaultInside src x → Passed src (get_or (flaw_numbers x) 1 0) (get_or (flaw_numbers x) 2 0)
      at NoStartRule p = p
      at (InvalidStartRule a b) p = p
      at (UnknownRuleRef a b) p = p
      at (UnknownTokenRef a b) p = p
      at (UnknownPrecToken a b) p = record { onward = omega arith; inside = omega arith }
      at (NoPrecForToken a b) p = record { onward = omega arith; inside = omega arith }
      at (UnknownEppKey a b) p = p
