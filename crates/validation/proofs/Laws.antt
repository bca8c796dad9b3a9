-- What the functions' proofs cite: what is left of a definition behind each test, and the tests put together. Assumes nothing.
use Rattle.std.specs.Prelude.{Option, Some, None, Ok, Err}
use Prim.Native.Nat.{ℕ, zero, suc, ◌+◌, ◌-◌, ◌≤◌, ◌<◌}
use mathlib.Core.Path.{◌≡◌, refl, sym, ◌∙◌}
use mathlib.Core.List.{List, [], ◌∷◌, ◌++◌, append_assoc}
use mathlib.Core.Bool.{Bool, true, false, ◌||◌, not}
use native.Mathlib.Omega.{arith}
use borrow.Author.Tests.{eq-eqb, ne_eqb, not-true, not-false}
use lib.Dec.{eqb}
use Rattle.tables.specs.Table.{cell, find_name, zeroed}
use Rattle.tables.specs.Layout.{tokens, precedences, implicit, epps, unused, rules, productions, symbols, key_name, kind_name, rule_row, symbols_from, symbols_to, known_row, no_row, width}
use Rattle.tables.proofs.Cases.{find_cases}
use Rattle.tables.proofs.Ends.{chained_inside}
use Rattle.symbols.specs.Symbols.{row_number, lexicon, named_row, row_for, Knows}
use Rattle.links.specs.Links.{is_of_rule}
use Rattle.grammar.specs.Sound.{Tables, Indexes, Sound}
use Rattle.grammar.specs.declared.Counts.{Counts}
use Rattle.grammar.specs.declared.Singles.{Singles}
use Rattle.productions.specs.Cells.{cell_of, production_at}
use Rattle.productions.specs.declared.Production.{Production}
use Rattle.sound.specs.Test.{count_at, sound_test}
use Rattle.sound.proofs.Iff.{sound_iff}
use Rattle.validation.specs.Faults.{first, upto, unless, is_row, known, start_faults, prec_given, prec_faults, name_faults, kind_faults, kinds_faults, production_faults, of_rule, rules_faults, epp_faults, epps_faults, faults, validity}
use Rattle.validation.specs.Walk.{SymbolsKnown, Walkable, symbol_faults, symbols_faults, failing, AllFaults, all_faults, fault_listing}
use Rattle.validation.specs.declared.Flaw.{Flaw}
use Rattle.validation.specs.declared.Flaw.TheVariants.{NoStartRule, InvalidStartRule, UnknownRuleRef, UnknownTokenRef, UnknownEppKey}
use Rattle.validation.specs.declared.FaultsError.TheVariants.{FaultsUnsound}
use Rattle.validation.specs.declared.ValidityError.TheVariants.{UnsoundTables}

-- nothing is first of no faults alone
pub first_none : (xs : List Flaw) → first xs ≡ Ok tt → xs ≡ []
first_none [] e = refl
first_none (x ∷ xs) e = let z : ◌≡◌ {A = ℕ} 0 1 = cc in absurd (omega arith)

-- what agrees below n comes to the same up to n
upto_same : (n : ℕ) (f g : ℕ → List Flaw) → ((i : ℕ) → i < n → f i ≡ g i) → upto n f ≡ upto n g
unfolding upto
upto_same zero f g h = refl
upto_same (suc n) f g h = rw (upto_same n f g (λ i l. h i (omega arith)), h n (omega arith))

-- a name among the rows
pub known_is : (src t : List ℕ) (w n a b : ℕ) (f g : Option ℕ) → f ≡ find_name src w 0 n t a b → f ≡ g → is_row g ≡ known src t w n a b
unfolding known
known_is src t w n a b f g e h = rw (← e, h)

-- the start rule, a `%prec` and a symbol, behind the tests of their names
pub start_none : (src t7 : List ℕ) (n : ℕ) (p : Option (ℕ × ℕ)) → p ≡ None → failing (Err NoStartRule) ≡ start_faults src p t7 n
start_none src t7 n p h = rw h

module _ (src : List ℕ) (n a b : ℕ) (q k : Bool) where
  pub start_at : (t7 : List ℕ) (p : Option (ℕ × ℕ)) → p ≡ Some (a, b) → q ≡ known src t7 (width rules) n a b → q ≡ k → unless k (InvalidStartRule a b) ≡ start_faults src p t7 n
  start_at t7 p h e f = rw (h, ← e, f)

  pub prec_at : (t1 t2 : List ℕ) (m : ℕ) (p : Option (ℕ × ℕ)) (r l : Bool) → p ≡ Some (a, b) → q ≡ known src t1 (width tokens) n a b → q ≡ k → r ≡ known src t2 (width precedences) m a b → r ≡ l → prec_given k l a b ≡ prec_faults src p t1 n t2 m
  prec_at t1 t2 m p r l h e f i j = rw (h, ← e, f, ← i, j)

  pub name_token : (t1 t7 : List ℕ) (kind m : ℕ) → (kind ≡ 1 → ⊥) → q ≡ known src t1 (width tokens) n a b → q ≡ k → unless k (UnknownTokenRef a b) ≡ name_faults src kind a b t1 n t7 m
  unfolding name_faults
  name_token t1 t7 kind m h e f = rw (name_faults, ne_eqb _ _ h, ← e, f)

  pub name_rule : (t1 t7 : List ℕ) (kind m : ℕ) → kind ≡ 1 → q ≡ known src t7 (width rules) n a b → q ≡ k → unless k (UnknownRuleRef a b) ≡ name_faults src kind a b t1 m t7 n
  unfolding name_faults
  name_rule t1 t7 kind m h e f = rw (h, ← e, f)

  -- the key of an `%epp`, by its name
  pub epp_is : (t1 t4 t5 : List ℕ) (m r : ℕ) (s l : Bool) → a ≡ cell (width epps) t5 r key_name → b ≡ cell (width epps) t5 r (key_name + 1) → q ≡ known src t1 (width tokens) n a b → q ≡ k → s ≡ known src t4 (width implicit) m a b → s ≡ l → (c d : ℕ) → c ≡ cell (width epps) t5 r 0 → d ≡ cell (width epps) t5 r 1 → unless (k || l) (UnknownEppKey c d) ≡ epp_faults src t1 n t4 m t5 r
  unfolding epp_faults
  epp_is t1 t4 t5 m r s l x y e f i j c d u v = rw (← x, ← y, ← u, ← v, ← e, f, ← i, j)

-- a found row is below its count, so `no_row` says that there is none
told_row : (src : List ℕ) (w n : ℕ) (t : List ℕ) (a b : ℕ) → n ≤ no_row → (f : Flaw) → elim (eqb (row_number (find_name src w 0 n t a b)) no_row) [ true ↦ f ∷ [] | false ↦ [] ] ≡ unless (known src t w n a b) f
unfolding known
told_row src w n t a b h f =
    find_cases (λ (o : Option ℕ). elim (eqb (row_number o) no_row) [ true ↦ f ∷ [] | false ↦ [] ] ≡ unless (is_row o) f) src w 0 n t a b
    (λ r l x before. rw (ne_eqb r no_row (λ y. omega arith)))
    (λ none. refl)

-- where symbols know their rows, their cells say what their names say
module _ (src t1 t7 t9 : List ℕ) (n m count : ℕ) (K : Knows (lexicon src t1 n t7 m) count t9) (h : n ≤ no_row) (l : m ≤ no_row) where
  pub symbol_known : (s : ℕ) → s < count → symbol_faults t9 s ≡ kind_faults src (width symbols) t9 t1 n t7 m s
  unfolding symbol_faults kind_faults name_faults row_for named_row
  symbol_known s i = rw (symbol_faults, K.row s i) (go (eqb (at 0) 1))
    where
      at : ℕ → ℕ
      at k = cell (width symbols) t9 s k

      go : (q : Bool) → ◌≡◌ {A = List Flaw} (elim (eqb (elim q [ true ↦ row_number (find_name src (width rules) 0 m t7 (at 1) (at 2)) | false ↦ row_number (find_name src (width tokens) 0 n t1 (at 1) (at 2)) ]) no_row) [ true ↦ elim q [ true ↦ UnknownRuleRef (at 1) (at 2) ∷ [] | false ↦ UnknownTokenRef (at 1) (at 2) ∷ [] ] | false ↦ [] ])
          (elim q [ true ↦ unless (known src t7 (width rules) m (at 1) (at 2)) (UnknownRuleRef (at 1) (at 2)) | false ↦ unless (known src t1 (width tokens) n (at 1) (at 2)) (UnknownTokenRef (at 1) (at 2)) ])
      go true = told_row src (width rules) m t7 (at 1) (at 2) l (UnknownRuleRef (at 1) (at 2))
      go false = told_row src (width tokens) n t1 (at 1) (at 2) h (UnknownTokenRef (at 1) (at 2))

  pub symbols_known : (from to : ℕ) → to ≤ count → symbols_faults t9 from to ≡ kinds_faults src (width symbols) t9 t1 n t7 m from to
  unfolding symbols_faults kinds_faults
  symbols_known from to i = upto_same (to - from) _ _ (λ j k. symbol_known (from + j) (omega arith))

-- a symbol by its own cell
module _ (t9 : List ℕ) (s v : ℕ) (e : v ≡ cell (width symbols) t9 s known_row) where
  pub symbol_met : (v ≡ no_row → ⊥) → [] ≡ symbol_faults t9 s
  unfolding symbol_faults
  symbol_met h = rw (← e, ne_eqb v no_row h, symbol_faults)

  module _ (kind a b : ℕ) (x : kind ≡ cell (width symbols) t9 s 0) (y : a ≡ cell (width symbols) t9 s kind_name) (z : b ≡ cell (width symbols) t9 s (kind_name + 1)) (h : v ≡ no_row) where
    pub symbol_rule : kind ≡ 1 → UnknownRuleRef a b ∷ [] ≡ symbol_faults t9 s
    unfolding symbol_faults
    symbol_rule k = rw (← e, eq-eqb v no_row h, ← x, eq-eqb kind 1 k, ← y, ← z, symbol_faults)

    pub symbol_token : (kind ≡ 1 → ⊥) → UnknownTokenRef a b ∷ [] ≡ symbol_faults t9 s
    unfolding symbol_faults
    symbol_token k = rw (← e, eq-eqb v no_row h, ← x, ne_eqb kind 1 k, ← y, ← z, symbol_faults)

-- of fewer productions too
pub fewer_known : (src t1 : List ℕ) (n : ℕ) (t7 : List ℕ) (m : ℕ) (t8 t9 : List ℕ) (c r : ℕ) → r < c → SymbolsKnown src t1 n t7 m t8 t9 c → SymbolsKnown src t1 n t7 m t8 t9 (r + 1)
fewer_known src t1 n t7 m t8 t9 c r h K = record { count = K.count; rows = K.rows; inside = λ q l. K.inside q (omega arith) }

-- a production: its `%prec`, then its symbols
pub production_is : (src t1 t2 t7 t8 t9 : List ℕ) (n m l r : ℕ) → SymbolsKnown src t1 n t7 l t8 t9 (r + 1) → n ≤ no_row → l ≤ no_row → (p : Production) (fs : List Flaw) → p ≡ production_at t8 r → fs ≡ prec_faults src p.prec t1 n t2 m → fs ++ symbols_faults t9 p.first p.last ≡ production_faults src t1 n t2 m t7 l t8 t9 r
unfolding production_faults
production_is src t1 t2 t7 t8 t9 n m l r K i j p fs h e = rw (e, h, symbols_known src t1 t7 t9 n l K.count K.rows i j (production_at t8 r).first (production_at t8 r).last (K.inside r (omega arith)))

-- a production of a rule, or of another one
module _ (t8 : List ℕ) (k r : ℕ) (fs : List Flaw) where
  pub of_rule_lem : is_of_rule t8 k r ≡ true → fs ≡ of_rule (eqb (cell_of t8 r rule_row) k) fs
  unfolding is_of_rule
  of_rule_lem h = rw h

  pub of_other : is_of_rule t8 k r ≡ false → [] ≡ of_rule (eqb (cell_of t8 r rule_row) k) fs
  unfolding is_of_rule
  of_other h = rw h

-- the tests in two halves, behind the counts of the tables
module _ (src : List ℕ) (c : Counts) (n1 n7 : ℕ) (h1 : n1 ≡ count_at c tokens) (h7 : n7 ≡ count_at c rules) where
  pub start_rules_are : (t1 t2 t7 t8 t9 : List ℕ) (p : Option (ℕ × ℕ)) (n2 n8 : ℕ) → n2 ≡ count_at c precedences → n8 ≡ count_at c productions → (fs : List Flaw) → fs ≡ start_faults src p t7 n7 → fs ++ rules_faults src t1 n1 t2 n2 t7 n7 t8 t9 n8 ≡ start_faults src p t7 (count_at c rules) ++ rules_faults src t1 (count_at c tokens) t2 (count_at c precedences) t7 (count_at c rules) t8 t9 (count_at c productions)
  start_rules_are t1 t2 t7 t8 t9 p n2 n8 h2 h8 fs e = rw (e, h1, h2, h7, h8)

  pub epps_unused_are : (t1 t4 t5 t6 t7 : List ℕ) (n4 n5 n6 : ℕ) → n4 ≡ count_at c implicit → n5 ≡ count_at c epps → n6 ≡ count_at c unused → epps_faults src t1 n1 t4 n4 t5 n5 ++ kinds_faults src (width unused) t6 t1 n1 t7 n7 0 n6 ≡ epps_faults src t1 (count_at c tokens) t4 (count_at c implicit) t5 (count_at c epps) ++ kinds_faults src (width unused) t6 t1 (count_at c tokens) t7 (count_at c rules) 0 (count_at c unused)
  epps_unused_are t1 t4 t5 t6 t7 n4 n5 n6 h4 h5 h6 = rw (h1, h4, h5, h6, h7)

-- sound tables have the index that the start rule is looked up by, and symbols that know their rows
pub sound_walkable : (src : List ℕ) (c : Counts) (g : Singles) (T : Tables) (X : Indexes) → Sound src c g T X → Walkable src c T.t1 T.t7 T.t8 T.t9 X.rules
unfolding production_at
sound_walkable src c g T X s =
    record {
      rules = s.indexes.rules;
      symbols = record { count = count_at c symbols; rows = s.known; inside = λ r h. chained_inside (width productions) symbols_from symbols_to (count_at c productions) T.t8 (count_at c symbols) s.ranges r h (omega arith) };
    }

-- all of them, and 44 before them
module _ (src : List ℕ) (c : Counts) (g : Singles) where
  pub faults_are : (t1 t2 t4 t5 t6 t7 t8 t9 : List ℕ) → (start_faults src g.start t7 (count_at c rules) ++ rules_faults src t1 (count_at c tokens) t2 (count_at c precedences) t7 (count_at c rules) t8 t9 (count_at c productions)) ++ (epps_faults src t1 (count_at c tokens) t4 (count_at c implicit) t5 (count_at c epps) ++ kinds_faults src (width unused) t6 t1 (count_at c tokens) t7 (count_at c rules) 0 (count_at c unused)) ≡ faults src c g t1 t2 t4 t5 t6 t7 t8 t9
  unfolding faults
  faults_are t1 t2 t4 t5 t6 t7 t8 t9 = append_assoc (start_faults src g.start t7 (count_at c rules)) _ _

  module _ (T : Tables) (X : Indexes) (q : Bool) (e : q ≡ sound_test src c g T X) where
    pub tested_walkable : not q ≡ false → Walkable src c T.t1 T.t7 T.t8 T.t9 X.rules
    tested_walkable h = sound_walkable src c g T X ((sound_iff src c g T X).0 (sym e ∙ not-false q h))

    pub unsound : not q ≡ true → Err UnsoundTables ≡ validity src c g T X
    unfolding validity
    unsound h = rw (validity, ← e, not-true q h)

    pub sound : not q ≡ false → first (faults src c g T.t1 T.t2 T.t4 T.t5 T.t6 T.t7 T.t8 T.t9) ≡ validity src c g T X
    unfolding validity
    sound h = rw (validity, ← e, not-false q h)

    -- the list of all faults
    pub listing_unsound : (t u : List ℕ) → u ≡ zeroed t → not q ≡ true → ◌≡◌ {A = AllFaults} (record { answer = Err FaultsUnsound; cells = u }) (fault_listing src c g T X t)
    unfolding fault_listing
    listing_unsound t u z h = rw (fault_listing, ← e, not-true q h, z)

    pub listing_sound : (t : List ℕ) → not q ≡ false → all_faults (faults src c g T.t1 T.t2 T.t4 T.t5 T.t6 T.t7 T.t8 T.t9) t ≡ fault_listing src c g T X t
    unfolding fault_listing
    listing_sound t h = rw (fault_listing, ← e, not-false q h)
