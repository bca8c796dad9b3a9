-- The list of all faults against validation, how long it can be, and that its contract allows one outcome. Assumes nothing.
use Rattle.std.specs.Prelude.{Option, Some, None, Result, Ok, Err}
use Prim.Native.Nat.{ℕ, zero, suc, ◌+◌, ◌*◌, ◌-◌, ◌≤◌, ◌<◌}
use mathlib.Core.Path.{◌≡◌, refl, sym, ap, ◌∙◌}
use mathlib.Core.List.{List, [], ◌∷◌, ◌++◌}
use mathlib.Core.Bool.{Bool, true, false, ◌||◌}
use mathlib.Core.Logic.{◌↔◌}
use native.Mathlib.Omega.{arith}
use native.Mathlib.Decide.{ℕ_discrete}
use borrow.Author.Tests.{eq-eqb, ne_eqb, le-leb}
use lib.Dec.{eqb, leb}
use lib.ListN.{length, get_or, replicate, length-append}
use Rattle.tables.specs.Table.{cell}
use Rattle.tables.specs.Rows.{end_before, Chained}
use Rattle.tables.specs.Layout.{tokens, precedences, implicit, epps, unused, rules, productions, symbols, key_name, rule_row, symbols_from, symbols_to, width, fault_width}
use Rattle.tables.proofs.Rows.{row_cell}
use Rattle.grammar.specs.declared.Counts.{Counts}
use Rattle.grammar.specs.declared.Singles.{Singles}
use Rattle.grammar.specs.Sound.{Tables, Indexes}
use Rattle.productions.specs.Cells.{cell_of, production_at}
use Rattle.sound.specs.Test.{count_at, sound_test}
use Rattle.sound.proofs.Iff.{sound_iff}
use Rattle.validation.specs.Faults.{flaw_number, flaw_numbers, first, upto, unless, known, start_faults, prec_given, prec_faults, name_faults, kind_faults, kinds_faults, production_faults, of_rule, rule_faults, rules_faults, epp_faults, epps_faults, faults, validity}
use Rattle.validation.specs.Walk.{AllFaults, all_faults, all_faults_if, fault_listing, tests_of}
use Rattle.validation.specs.declared.Flaw.{Flaw}
use Rattle.validation.specs.declared.Flaw.TheVariants.{NoStartRule, InvalidStartRule, UnknownRuleRef, UnknownTokenRef, UnknownPrecToken, NoPrecForToken, UnknownEppKey}
use Rattle.validation.specs.declared.ValidityError.{ValidityError}
use Rattle.validation.specs.declared.ValidityError.TheVariants.{UnsoundTables, Invalid}
use Rattle.validation.specs.declared.FaultsError.TheVariants.{FaultsUnsound}

-- ---- how long the list can be

-- one fault at most for each test
unless_one : (b : Bool) (f : Flaw) → length (unless b f) ≤ 1
unless_one true f = omega arith
unless_one false f = omega arith

start_most : (src t7 : List ℕ) (p : Option (ℕ × ℕ)) (n : ℕ) → length (start_faults src p t7 n) ≤ 1
start_most src t7 None n = omega arith
start_most src t7 (Some (a, b)) n = unless_one (known src t7 (width rules) n a b) (InvalidStartRule a b)

prec_one : (src t1 t2 : List ℕ) (p : Option (ℕ × ℕ)) (n m : ℕ) → length (prec_faults src p t1 n t2 m) ≤ 1
prec_one src t1 t2 None n m = omega arith
prec_one src t1 t2 (Some (a, b)) n m = given (known src t1 (width tokens) n a b) (known src t2 (width precedences) m a b)
  where
    given : (q k : Bool) → length (prec_given q k a b) ≤ 1
    given false k = omega arith
    given true k = unless_one k (NoPrecForToken a b)

name_one : (src t1 t7 : List ℕ) (kind a b n m : ℕ) → length (name_faults src kind a b t1 n t7 m) ≤ 1
unfolding name_faults
name_one src t1 t7 kind a b n m = go (eqb kind 1)
  where
    go : (q : Bool) → length {A = Flaw} (elim q [ true ↦ unless (known src t7 (width rules) m a b) (UnknownRuleRef a b) | false ↦ unless (known src t1 (width tokens) n a b) (UnknownTokenRef a b) ]) ≤ 1
    go true = unless_one (known src t7 (width rules) m a b) (UnknownRuleRef a b)
    go false = unless_one (known src t1 (width tokens) n a b) (UnknownTokenRef a b)

kind_one : (src : List ℕ) (w : ℕ) (t t1 t7 : List ℕ) (n m r : ℕ) → length (kind_faults src w t t1 n t7 m r) ≤ 1
unfolding kind_faults
kind_one src w t t1 t7 n m r = name_one src t1 t7 _ _ _ n m

epp_one : (src t1 t4 t5 : List ℕ) (n m r : ℕ) → length (epp_faults src t1 n t4 m t5 r) ≤ 1
unfolding epp_faults
epp_one src t1 t4 t5 n m r =
    unless_one (known src t1 (width tokens) n (at key_name) (at (key_name + 1)) || known src t4 (width implicit) m (at key_name) (at (key_name + 1))) (UnknownEppKey (at 0) (at 1))
  where
    at : ℕ → ℕ
    at k = cell (width epps) t5 r k

-- of n tests n faults at most
upto_most : (f : ℕ → List Flaw) → ((i : ℕ) → length (f i) ≤ 1) → (n : ℕ) → length (upto n f) ≤ n
unfolding upto
upto_most f h zero = omega arith
upto_most f h (suc n) = omega (arith, length-append (upto n f) (f n), upto_most f h n, h n)

-- by rules in order no more than by productions in order: each production has one rule
upto_nothing : (l : ℕ) → length (upto l (λ k. [])) ≡ 0
unfolding upto
upto_nothing zero = refl
upto_nothing (suc l) = omega (arith, length-append (upto l (λ k. [])) [], upto_nothing l)

upto_pairs : (a b : ℕ → List Flaw) (l : ℕ) → length (upto l (λ k. a k ++ b k)) ≡ length (upto l a) + length (upto l b)
unfolding upto
upto_pairs a b zero = refl
upto_pairs a b (suc l) =
    omega (arith, length-append (upto l (λ k. a k ++ b k)) (a l ++ b l), length-append (a l) (b l), length-append (upto l a) (a l), length-append (upto l b) (b l), upto_pairs a b l)

module _ (x : ℕ) (fs : List Flaw) where
  before : (l : ℕ) → l ≤ x → length (upto l (λ k. of_rule (eqb x k) fs)) ≡ 0
  unfolding upto
  before zero h = refl
  before (suc l) h =
      omega (arith, length-append (upto l (λ k. of_rule (eqb x k) fs)) (of_rule (eqb x l) fs), before l (omega arith), ap (λ (b : Bool). length (of_rule b fs)) (ne_eqb x l (λ e. omega (arith, e))))

  once : (l : ℕ) → length (upto l (λ k. of_rule (eqb x k) fs)) ≤ length fs
  unfolding upto
  once zero = omega arith
  once (suc l) =
      let s = length-append (upto l (λ k. of_rule (eqb x k) fs)) (of_rule (eqb x l) fs) in
      elim (ℕ_discrete x l) [
        | yes e ↦ omega (arith, s, before l (omega (arith, e)), ap (λ (b : Bool). length (of_rule b fs)) (eq-eqb x l e))
        | no e ↦ omega (arith, s, once l, ap (λ (b : Bool). length (of_rule b fs)) (ne_eqb x l e))
      ]

regrouped : (row : ℕ → ℕ) (f : ℕ → List Flaw) (l c : ℕ) → length (upto l (λ k. upto c (λ r. of_rule (eqb (row r) k) (f r)))) ≤ length (upto c f)
unfolding upto
regrouped row f l zero = omega (arith, upto_nothing l)
regrouped row f l (suc c) =
    omega (arith, upto_pairs (λ k. upto c (λ r. of_rule (eqb (row r) k) (f r))) (λ k. of_rule (eqb (row c) k) (f c)) l, regrouped row f l c, once (row c) (f c) l, length-append (upto c f) (f c))

-- the symbols of a production, at the end of those before it
module _ (src t1 t2 t7 t8 t9 : List ℕ) (n m l : ℕ) where
  production_most : (r : ℕ) → length (production_faults src t1 n t2 m t7 l t8 t9 r) ≤ 1 + (cell_of t8 r symbols_to - cell_of t8 r symbols_from)
  unfolding production_faults kinds_faults production_at
  production_most r =
      omega (
        arith,
        length-append (prec_faults src (production_at t8 r).prec t1 n t2 m) (kinds_faults src (width symbols) t9 t1 n t7 l (production_at t8 r).first (production_at t8 r).last),
        prec_one src t1 t2 (production_at t8 r).prec n m,
        upto_most (λ i. kind_faults src (width symbols) t9 t1 n t7 l (cell_of t8 r symbols_from + i)) (λ i. kind_one src (width symbols) t9 t1 t7 n l (cell_of t8 r symbols_from + i)) (cell_of t8 r symbols_to - cell_of t8 r symbols_from),
      )

  productions_most : (c e : ℕ) → Chained (width productions) symbols_from symbols_to c t8 e → (k : ℕ) → k ≤ c → length (upto k (production_faults src t1 n t2 m t7 l t8 t9)) ≤ k + end_before (width productions) symbols_to t8 k
  unfolding upto end_before
  productions_most c e x zero h = omega arith
  productions_most c e x (suc k) h =
      omega (
        arith,
        length-append (upto k (production_faults src t1 n t2 m t7 l t8 t9)) (production_faults src t1 n t2 m t7 l t8 t9 k),
        productions_most c e x k (omega arith),
        production_most k,
        x.begins k (omega arith),
        x.onward k (omega arith),
        row_cell (width productions) t8 k symbols_from (omega arith),
        row_cell (width productions) t8 k symbols_to (omega arith),
      )

  rules_most : (c e : ℕ) → Chained (width productions) symbols_from symbols_to c t8 e → length (rules_faults src t1 n t2 m t7 l t8 t9 c) ≤ c + e
  unfolding rules_faults rule_faults
  rules_most c e x =
      omega (
        arith,
        regrouped (λ r. cell_of t8 r rule_row) (production_faults src t1 n t2 m t7 l t8 t9) l c,
        productions_most c e x c (omega arith),
        x.last,
      )

-- ---- the list against validation, by the test of soundness and the faults

abbrev listing : Bool → List Flaw → List ℕ → AllFaults
listing q fs t = elim q [ true ↦ all_faults fs t | false ↦ record { answer = Err FaultsUnsound; cells = replicate (length t) 0 } ]

abbrev outcome : Bool → List Flaw → Result (Unit {0}) ValidityError
outcome q fs = elim q [ true ↦ first fs | false ↦ Err UnsoundTables ]

clash_some : (b : Bool) (f : Flaw) (fs : List Flaw) (t : List ℕ) → (all_faults_if b (f ∷ fs) t).answer ≡ Ok 0 → ⊥
clash_some true f fs t e = let z : suc (length fs) ≡ 0 = cc in omega (arith, z)
clash_some false f fs t e = let z : ◌≡◌ {A = ℕ} 0 1 = cc in omega arith

none_iff : (q : Bool) (fs : List Flaw) (t : List ℕ) → ((listing q fs t).answer ≡ Ok 0) ↔ (outcome q fs ≡ Ok tt)
none_iff true [] t = (λ e. refl, λ e. rw (le-leb (0 * fault_width) (length t) (omega arith)))
none_iff true (f ∷ fs) t = (λ e. absurd (clash_some (leb (length (f ∷ fs) * fault_width) (length t)) f fs t e), λ e. let z : ◌≡◌ {A = ℕ} 0 1 = cc in absurd (omega arith))
none_iff false fs t = (λ e. let z : ◌≡◌ {A = ℕ} 0 1 = cc in absurd (omega arith), λ e. let z : ◌≡◌ {A = ℕ} 0 1 = cc in absurd (omega arith))

head_number : (f : Flaw) → flaw_number f ≡ get_or (flaw_numbers f) 0 0
head_number NoStartRule = refl
head_number (InvalidStartRule a b) = refl
head_number (UnknownRuleRef a b) = refl
head_number (UnknownTokenRef a b) = refl
head_number (UnknownPrecToken a b) = refl
head_number (NoPrecForToken a b) = refl
head_number (UnknownEppKey a b) = refl

-- the first row of a list that has one
abbrev Leads : Bool → List Flaw → List ℕ → Type 0
Leads q fs t = (f : Flaw) × (outcome q fs ≡ Err (Invalid f)) × (cell fault_width (listing q fs t).cells 0 0 ≡ get_or (flaw_numbers f) 0 0)

first_of : (q : Bool) (fs : List Flaw) (t : List ℕ) (n : ℕ) → (listing q fs t).answer ≡ Ok n → 0 < n → Leads q fs t
first_of true [] t n e h = none (leb (0 * fault_width) (length t)) e
  where
    none : (b : Bool) → (all_faults_if b [] t).answer ≡ Ok n → Leads true [] t
    none true e = let z : 0 ≡ n = cc in absurd (omega (arith, z))
    none false e = let z : ◌≡◌ {A = ℕ} 0 1 = cc in absurd (omega arith)
first_of true (f ∷ fs) t n e h = (f, refl, some (leb (length (f ∷ fs) * fault_width) (length t)) e)
  where
    some : (b : Bool) → (all_faults_if b (f ∷ fs) t).answer ≡ Ok n → cell fault_width (all_faults_if b (f ∷ fs) t).cells 0 0 ≡ get_or (flaw_numbers f) 0 0
    some true e = head_number f
    some false e = let z : ◌≡◌ {A = ℕ} 0 1 = cc in absurd (omega arith)
first_of false fs t n e h = let z : ◌≡◌ {A = ℕ} 0 1 = cc in absurd (omega arith)

module _ (src : List ℕ) (c : Counts) (g : Singles) (T : Tables) (X : Indexes) where
  abbrev all : List Flaw
  all = faults src c g T.t1 T.t2 T.t4 T.t5 T.t6 T.t7 T.t8 T.t9

  -- sound tables have no more faults than tests
  faults_most : sound_test src c g T X ≡ true → length all ≤ tests_of c
  unfolding faults epps_faults kinds_faults
  faults_most s =
      let x = ((sound_iff src c g T X).0 s).ranges in
      let rs = rules_faults src T.t1 (count_at c tokens) T.t2 (count_at c precedences) T.t7 (count_at c rules) T.t8 T.t9 (count_at c productions) in
      let es = epps_faults src T.t1 (count_at c tokens) T.t4 (count_at c implicit) T.t5 (count_at c epps) in
      let us = kinds_faults src (width unused) T.t6 T.t1 (count_at c tokens) T.t7 (count_at c rules) 0 (count_at c unused) in
      omega (
        arith,
        length-append (start_faults src g.start T.t7 (count_at c rules)) (rs ++ (es ++ us)),
        length-append rs (es ++ us),
        length-append es us,
        start_most src T.t7 g.start (count_at c rules),
        rules_most src T.t1 T.t2 T.t7 T.t8 T.t9 (count_at c tokens) (count_at c precedences) (count_at c rules) (count_at c productions) (count_at c symbols) x,
        upto_most (epp_faults src T.t1 (count_at c tokens) T.t4 (count_at c implicit) T.t5) (epp_one src T.t1 T.t4 T.t5 (count_at c tokens) (count_at c implicit)) (count_at c epps),
        upto_most (λ i. kind_faults src (width unused) T.t6 T.t1 (count_at c tokens) T.t7 (count_at c rules) (0 + i)) (λ i. kind_one src (width unused) T.t6 T.t1 T.t7 (count_at c tokens) (count_at c rules) (0 + i)) (count_at c unused - 0),
      )

  module _ (t : List ℕ) where
    -- "The list is empty exactly when validation accepts."
    pub faults_none : ((fault_listing src c g T X t).answer ≡ Ok 0) ↔ (validity src c g T X ≡ Ok tt)
    unfolding fault_listing validity
    faults_none = none_iff (sound_test src c g T X) all t

    -- "Its first entry has validation's number."
    pub faults_first : (n : ℕ) → (fault_listing src c g T X t).answer ≡ Ok n → 0 < n → (f : Flaw) × (validity src c g T X ≡ Err (Invalid f)) × (cell fault_width (fault_listing src c g T X t).cells 0 0 ≡ get_or (flaw_numbers f) 0 0)
    unfolding fault_listing validity
    faults_first = first_of (sound_test src c g T X) all t

    -- a row for each test is room enough
    pub faults_room : sound_test src c g T X ≡ true → tests_of c * fault_width ≤ length t → fault_listing src c g T X t ≡ all_faults_if true all t
    unfolding fault_listing
    faults_room s h = rw (fault_listing, s, le-leb (length all * fault_width) (length t) (omega (arith, faults_most s)))

    -- any two outcomes that the contract allows are the same
    pub faults_one : (o p : AllFaults) → o ≡ fault_listing src c g T X t → p ≡ fault_listing src c g T X t → o ≡ p
    faults_one o p e f = e ∙ sym f
