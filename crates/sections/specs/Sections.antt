-- Document 01, "Numbers given back": "Order: 43, 41, 40, then reading.", and document 02: 45 "tested after 43". Then the three sections.
use Rattle.std.specs.Prelude.{ℕ, ◌≤◌, List, [], ◌∷◌, Bool, true, false, ◌||◌, ◌&&◌, ltb, length, Result, Ok, Err}
use Rattle.whole.specs.Whole.{check_at}
use Rattle.tables.specs.Layout.{tokens, rules, width}
use Rattle.index.specs.Index.{size_test}
use Rattle.grammar.specs.declared.State.{State}
use Rattle.grammar.specs.declared.Cause.TheVariants.{NotUtf8, PrematureEnd}
use Rattle.grammar.specs.declared.Refusal.TheVariants.{Fault, TooLong, BadKind, BadIndex}
use Rattle.grammar.specs.declared.Answer.{Answer}
use Rattle.grammar.specs.declared.Answer.TheVariants.{Going, Done, Refused}
use Rattle.grammar.specs.Numbers.{refusal_numbers}
use Rattle.grammar.specs.State.{Out0, fresh}
use Rattle.grammar.specs.Sound.{AllTables, Indexes}
use Rattle.declarations.specs.Declarations.{Declared, Out, decl_all}
use Rattle.rules.specs.Rules.{Ruled, rules_all, programs_from}
use Rattle.grammar.specs.declared.Refusal.{Refusal}

-- a reading under way, with all thirteen tables
pub record Run : Type 0 where
  pub answer : Answer
  pub state : State
  pub tables : AllTables

abbrev pub admission_numbers : Result (Unit {0}) Refusal → List ℕ
admission_numbers (Ok _) = 0 ∷ 0 ∷ 0 ∷ 0 ∷ []
admission_numbers (Err f) = refusal_numbers f

-- "40 not UTF-8: first byte that begins no well-formed sequence"
abbrev pub as_text : Result (Unit {0}) ℕ → Result (Unit {0}) Refusal
as_text (Ok _) = Ok tt
as_text (Err i) = Err (Fault NotUtf8 i)

-- "a power of two of slots", at least "twice the rows its table has room for": m slots for n cells, of tables 1 and 7
unfoldable pub sizes_fit : ℕ → ℕ → ℕ → ℕ → Bool
sizes_fit m₁ n₁ m₇ n₇ = size_test m₁ n₁ (width tokens) && size_test m₇ n₇ (width rules)

abbrev pub sized : AllTables → Indexes → Bool
sized T X = sizes_fit (length X.tokens) (length T.t1) (length X.rules) (length T.t7)

-- "Kinds: 1 Original, 2 Grmtools, 3 Eco. Source: 0 to 65,536 bytes.", and document 02, request Nine: "Add kind 4"
abbrev pub sized_text : Bool → List ℕ → Result (Unit {0}) Refusal
sized_text true src = elim (ltb 65536 (length src)) [ true ↦ Err TooLong | false ↦ as_text (check_at src 0) ]
sized_text false src = Err BadIndex

unfoldable pub admitted : List ℕ → ℕ → Bool → Result (Unit {0}) Refusal
admitted src kind fit = elim (ltb kind 1 || ltb 4 kind) [ true ↦ Err BadKind | false ↦ sized_text fit src ]

-- a source that can be read is not too long
abbrev pub Short : List ℕ → Result (Unit {0}) Refusal → Type 0
Short src (Ok _) = length src ≤ 65536
Short src (Err f) = Unit {0}

-- rules, then programs
abbrev pub ran_program : Out0 → Ruled → Ruled
ran_program o r = record { answer = o.answer; state = o.state; t1 = r.t1; t7 = r.t7; t8 = r.t8; t9 = r.t9 }

abbrev pub rest_from : Answer → List ℕ → Ruled → Ruled
rest_from Going src r = ran_program (programs_from src r.state) r
rest_from Done src r = record { answer = Done; state = r.state; t1 = r.t1; t7 = r.t7; t8 = r.t8; t9 = r.t9 }
rest_from (Refused f) src r = record { answer = Refused f; state = r.state; t1 = r.t1; t7 = r.t7; t8 = r.t8; t9 = r.t9 }

abbrev pub rest_out : List ℕ → Ruled → Ruled
rest_out src r = rest_from r.answer src r

unfoldable pub rest_all : List ℕ → State → List ℕ → List ℕ → List ℕ → List ℕ → Ruled
rest_all src s t1 t7 t8 t9 = rest_out src (rules_all src s t1 t7 t8 t9)

-- the tables that declarations filled, and those that rules did
abbrev pub declared : AllTables → Declared
declared T = record { t1 = T.t1; t2 = T.t2; t3 = T.t3; t4 = T.t4; t5 = T.t5; t6 = T.t6; t10 = T.t10; t15 = T.t15; t16 = T.t16; t17 = T.t17 }

abbrev pub with_declared : AllTables → Declared → AllTables
with_declared T D = record { t1 = D.t1; t2 = D.t2; t3 = D.t3; t4 = D.t4; t5 = D.t5; t6 = D.t6; t7 = T.t7; t8 = T.t8; t9 = T.t9; t10 = D.t10; t15 = D.t15; t16 = D.t16; t17 = D.t17 }

abbrev pub with_ruled : Declared → Ruled → Run
with_ruled D r =
    record {
      answer = r.answer;
      state = r.state;
      tables = record { t1 = r.t1; t2 = D.t2; t3 = D.t3; t4 = D.t4; t5 = D.t5; t6 = D.t6; t7 = r.t7; t8 = r.t8; t9 = r.t9; t10 = D.t10; t15 = D.t15; t16 = D.t16; t17 = D.t17 };
    }

-- Declarations, which end with `%%` or refused; then the rest. Where they could go on, which does not come up, the rules would be missing: "10 PrematureEnd".
abbrev pub sections_from : Answer → List ℕ → Out → AllTables → Run
sections_from Going src o T = record { answer = Refused (Fault PrematureEnd o.state.at); state = o.state; tables = with_declared T o.tables }
sections_from Done src o T = with_ruled o.tables (rest_all src o.state o.tables.t1 T.t7 T.t8 T.t9)
sections_from (Refused f) src o T = record { answer = Refused f; state = o.state; tables = with_declared T o.tables }

abbrev pub sections_out : List ℕ → Out → AllTables → Run
sections_out src o T = sections_from o.answer src o T

unfoldable pub sections_all : List ℕ → State → AllTables → Run
sections_all src s T = sections_out src (decl_all src s (declared T)) T

-- the sections of a source that can be read, from where a reading begins
abbrev pub attempt_of : Result (Unit {0}) Refusal → List ℕ → ℕ → AllTables → Run
attempt_of (Ok _) src kind T = sections_all src (fresh kind) T
attempt_of (Err f) src kind T = record { answer = Refused f; state = fresh kind; tables = T }

unfoldable pub attempted : List ℕ → ℕ → Bool → AllTables → Run
attempted src kind fit T = attempt_of (admitted src kind fit) src kind T
