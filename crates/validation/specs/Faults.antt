-- Document 01, "Validation, then use": "Order: start; rules in order, their productions in order, `%prec` (33, then 34), symbols left to right; `%epp` as declared
-- (a difference); expected unused." Validation is the first of all faults in that order.
use Rattle.std.specs.Prelude.{ℕ, zero, suc, ◌+◌, ◌-◌, List, [], ◌∷◌, ◌++◌, Bool, true, false, ◌||◌, eqb, Option, Some, None, Result, Ok, Err}
use Rattle.tables.specs.Table.{cell, find_name}
use Rattle.tables.specs.Layout.{tokens, precedences, implicit, epps, unused, rules, productions, symbols, key_name, rule_row, kind_name, width}
use Rattle.grammar.specs.declared.Counts.{Counts}
use Rattle.grammar.specs.declared.Singles.{Singles}
use Rattle.grammar.specs.Sound.{Tables, Indexes}
use Rattle.productions.specs.Cells.{cell_of, production_at}
use Rattle.sound.specs.Test.{count_at, sound_test}
use Rattle.validation.specs.declared.Flaw.{Flaw}
use Rattle.validation.specs.declared.Flaw.TheVariants.{NoStartRule, InvalidStartRule, UnknownRuleRef, UnknownTokenRef, UnknownPrecToken, NoPrecForToken, UnknownEppKey}
use Rattle.validation.specs.declared.ValidityError.{ValidityError}
use Rattle.validation.specs.declared.ValidityError.TheVariants.{UnsoundTables, Invalid}

-- "30 NoStartRule, 34 NoPrecForToken"; "31 InvalidStartRule, 32 UnknownRuleRef, 35 UnknownEPP"; "33 UnknownToken"
abbrev pub flaw_number : Flaw → ℕ
flaw_number NoStartRule = 30
flaw_number (InvalidStartRule a b) = 31
flaw_number (UnknownRuleRef a b) = 32
flaw_number (UnknownTokenRef a b) = 33
flaw_number (UnknownPrecToken a b) = 33
flaw_number (NoPrecForToken a b) = 34
flaw_number (UnknownEppKey a b) = 35

-- number and place: "30, 34: 0..0"; "the name; for 35 the key as spelled"; "33: the name; 0..0 for `%prec`"; "44 unsound tables: 0..0"
abbrev pub flaw_numbers : Flaw → List ℕ
flaw_numbers NoStartRule = 30 ∷ 0 ∷ 0 ∷ []
flaw_numbers (InvalidStartRule a b) = 31 ∷ a ∷ b ∷ []
flaw_numbers (UnknownRuleRef a b) = 32 ∷ a ∷ b ∷ []
flaw_numbers (UnknownTokenRef a b) = 33 ∷ a ∷ b ∷ []
flaw_numbers (UnknownPrecToken a b) = 33 ∷ 0 ∷ 0 ∷ []
flaw_numbers (NoPrecForToken a b) = 34 ∷ 0 ∷ 0 ∷ []
flaw_numbers (UnknownEppKey a b) = 35 ∷ a ∷ b ∷ []

-- the place in the list of all faults: the name's, also where document 02, request One, says of a 33 or 34 from `%prec` "the place of the `%prec` name here"
abbrev pub fault_place : Flaw → List ℕ
fault_place NoStartRule = 0 ∷ 0 ∷ []
fault_place (InvalidStartRule a b) = a ∷ b ∷ []
fault_place (UnknownRuleRef a b) = a ∷ b ∷ []
fault_place (UnknownTokenRef a b) = a ∷ b ∷ []
fault_place (UnknownPrecToken a b) = a ∷ b ∷ []
fault_place (NoPrecForToken a b) = a ∷ b ∷ []
fault_place (UnknownEppKey a b) = a ∷ b ∷ []

-- a fault as a row of that list: number and place
abbrev pub fault_cells : Flaw → List ℕ
fault_cells f = flaw_number f ∷ fault_place f

abbrev pub validity_numbers : Result (Unit {0}) ValidityError → List ℕ
validity_numbers (Ok _) = 0 ∷ 0 ∷ 0 ∷ []
validity_numbers (Err UnsoundTables) = 44 ∷ 0 ∷ 0 ∷ []
validity_numbers (Err (Invalid f)) = flaw_numbers f

-- the first of the faults, if there is one
abbrev pub first : List Flaw → Result (Unit {0}) ValidityError
first [] = Ok tt
first (f ∷ fs) = Err (Invalid f)

-- what a function gives for each number below n, one behind the other
unfoldable pub upto : ℕ → (ℕ → List Flaw) → List Flaw
upto zero f = []
upto (suc n) f = upto n f ++ f n

-- a fault where a test says no
abbrev pub unless : Bool → Flaw → List Flaw
unless true f = []
unless false f = f ∷ []

-- whether one of the n rows has the name
abbrev pub is_row : Option ℕ → Bool
is_row (Some r) = true
is_row None = false

unfoldable pub known : List ℕ → List ℕ → ℕ → ℕ → ℕ → ℕ → Bool
known src t w n a b = is_row (find_name src w 0 n t a b)

-- "30 NoStartRule", "31 InvalidStartRule"
abbrev pub start_faults : List ℕ → Option (ℕ × ℕ) → List ℕ → ℕ → List Flaw
start_faults src None t7 n = NoStartRule ∷ []
start_faults src (Some (a, b)) t7 n = unless (known src t7 (width rules) n a b) (InvalidStartRule a b)

-- "`%prec` (33, then 34)": one of the two at most
abbrev pub prec_given : Bool → Bool → ℕ → ℕ → List Flaw
prec_given false k a b = UnknownPrecToken a b ∷ []
prec_given true k a b = unless k (NoPrecForToken a b)

abbrev pub prec_faults : List ℕ → Option (ℕ × ℕ) → List ℕ → ℕ → List ℕ → ℕ → List Flaw
prec_faults src None t1 n t2 m = []
prec_faults src (Some (a, b)) t1 n t2 m = prec_given (known src t1 (width tokens) n a b) (known src t2 (width precedences) m a b) a b

-- "1 rule, 2 token": a name of a symbol or of an expected unused one
unfoldable pub name_faults : List ℕ → ℕ → ℕ → ℕ → List ℕ → ℕ → List ℕ → ℕ → List Flaw
name_faults src kind a b t1 n t7 m =
    elim (eqb kind 1) [
      | true ↦ unless (known src t7 (width rules) m a b) (UnknownRuleRef a b)
      | false ↦ unless (known src t1 (width tokens) n a b) (UnknownTokenRef a b)
    ]

-- row r of table 6 or 9, whose rows are w wide, and rows from one up to another
unfoldable pub kind_faults : List ℕ → ℕ → List ℕ → List ℕ → ℕ → List ℕ → ℕ → ℕ → List Flaw
kind_faults src w t t1 n t7 m r = name_faults src (cell w t r 0) (cell w t r kind_name) (cell w t r (kind_name + 1)) t1 n t7 m

unfoldable pub kinds_faults : List ℕ → ℕ → List ℕ → List ℕ → ℕ → List ℕ → ℕ → ℕ → ℕ → List Flaw
kinds_faults src w t t1 n t7 m from to = upto (to - from) (λ i. kind_faults src w t t1 n t7 m (from + i))

-- production r: "`%prec` (33, then 34), symbols left to right"
unfoldable pub production_faults : List ℕ → List ℕ → ℕ → List ℕ → ℕ → List ℕ → ℕ → List ℕ → List ℕ → ℕ → List Flaw
production_faults src t1 n t2 m t7 l t8 t9 r =
    prec_faults src (production_at t8 r).prec t1 n t2 m ++ kinds_faults src (width symbols) t9 t1 n t7 l (production_at t8 r).first (production_at t8 r).last

-- "rules in order, their productions in order": those of rule k among the c productions
abbrev pub of_rule : Bool → List Flaw → List Flaw
of_rule true fs = fs
of_rule false fs = []

unfoldable pub rule_faults : List ℕ → List ℕ → ℕ → List ℕ → ℕ → List ℕ → ℕ → List ℕ → List ℕ → ℕ → ℕ → List Flaw
rule_faults src t1 n t2 m t7 l t8 t9 c k = upto c (λ r. of_rule (eqb (cell_of t8 r rule_row) k) (production_faults src t1 n t2 m t7 l t8 t9 r))

unfoldable pub rules_faults : List ℕ → List ℕ → ℕ → List ℕ → ℕ → List ℕ → ℕ → List ℕ → List ℕ → ℕ → List Flaw
rules_faults src t1 n t2 m t7 l t8 t9 c = upto l (rule_faults src t1 n t2 m t7 l t8 t9 c)

-- "35 UnknownEPP: the key as spelled": the key's name is neither a token nor an implicit one
unfoldable pub epp_faults : List ℕ → List ℕ → ℕ → List ℕ → ℕ → List ℕ → ℕ → List Flaw
epp_faults src t1 n t4 m t5 r =
    unless (known src t1 (width tokens) n (at key_name) (at (key_name + 1)) || known src t4 (width implicit) m (at key_name) (at (key_name + 1))) (UnknownEppKey (at 0) (at 1))
  where
    at : ℕ → ℕ
    at k = cell (width epps) t5 r k

unfoldable pub epps_faults : List ℕ → List ℕ → ℕ → List ℕ → ℕ → List ℕ → ℕ → List Flaw
epps_faults src t1 n t4 m t5 c = upto c (epp_faults src t1 n t4 m t5)

-- all failing tests, in order
unfoldable pub faults : List ℕ → Counts → Singles → List ℕ → List ℕ → List ℕ → List ℕ → List ℕ → List ℕ → List ℕ → List ℕ → List Flaw
faults src c g t1 t2 t4 t5 t6 t7 t8 t9 =
    start_faults src g.start t7 (count_at c rules)
    ++ (rules_faults src t1 (count_at c tokens) t2 (count_at c precedences) t7 (count_at c rules) t8 t9 (count_at c productions)
    ++ (epps_faults src t1 (count_at c tokens) t4 (count_at c implicit) t5 (count_at c epps) ++ kinds_faults src (width unused) t6 t1 (count_at c tokens) t7 (count_at c rules) 0 (count_at c unused)))

-- "44 unsound tables" first, then the first fault
unfoldable pub validity : List ℕ → Counts → Singles → Tables → Indexes → Result (Unit {0}) ValidityError
validity src c g T X =
    elim (sound_test src c g T X) [
      | true ↦ first (faults src c g T.t1 T.t2 T.t4 T.t5 T.t6 T.t7 T.t8 T.t9)
      | false ↦ Err UnsoundTables
    ]
