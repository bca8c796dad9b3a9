-- Document 01, "Rules", and the crate's `parse_rule`, `parse_rules` and `parse_programs`.
use Rattle.std.specs.Prelude.{ℕ, suc, ◌+◌, List, [], ◌∷◌, Bool, true, false, leb, eqb, length, Option, Some, None, Result, Ok, Err}
use Rattle.scan.specs.Scan.{starts_at}
use Rattle.scan.specs.Loop.{Turn, stop, turns}
use Rattle.words.specs.Words.{name_at}
use Rattle.scan.specs.declared.Place.{Place}
use Rattle.texts.specs.Colon.{colon_text_at}
use Rattle.tables.specs.Table.{find_name}
use Rattle.tables.specs.Layout.{rules, symbols, width}
use Rattle.grammar.specs.declared.Singles.{Singles}
use Rattle.grammar.specs.declared.State.{State}
use Rattle.grammar.specs.declared.Cause.{Cause}
use Rattle.grammar.specs.declared.Cause.TheVariants.{IllegalName, MissingColon, MissingRightArrow, ReachedEnd, UnknownDeclaration}
use Rattle.grammar.specs.declared.Refusal.TheVariants.{Fault}
use Rattle.grammar.specs.declared.Answer.{Answer}
use Rattle.grammar.specs.declared.Answer.TheVariants.{Going, Done, Refused}
use Rattle.grammar.specs.declared.Refusal.{Refusal}
use Rattle.grammar.specs.Cells.{rule_cells}
use Rattle.grammar.specs.State.{Out0, Out1, count, with_at, with_singles, gap_at, push_row, past_gap, pass_on, refused, onward}
use Rattle.settings.specs.Singles.{with_start}
use Rattle.items.specs.Items.{Itemed, begun, item_list}

-- the type of a rule, or why there is none
pub record Typing : Type 0 where
  pub answer : Answer
  pub state : State
  pub given : Option (ℕ × ℕ)

-- the row of a rule, or why there is none
pub record Heading : Type 0 where
  pub answer : Answer
  pub state : State
  pub row : ℕ
  pub t7 : List ℕ

-- what rules give
pub record Ruled : Type 0 where
  pub answer : Answer
  pub state : State
  pub t1 : List ℕ
  pub t7 : List ℕ
  pub t8 : List ℕ
  pub t9 : List ℕ

-- spacing, a mark that is sought behind it, and spacing again
abbrev pub mark_gap : Result (ℕ × ℕ) Refusal → List ℕ → State → List ℕ → Cause → Out0
mark_gap (Ok (i, n)) src s word cause = elim (starts_at word src i) [ true ↦ past_gap src false (i + length word) s | false ↦ refused (Fault cause i) s ]
mark_gap (Err f) src s word cause = refused f s

unfoldable pub pass_mark : List ℕ → State → List ℕ → Cause → Out0
pass_mark src s word cause = mark_gap (gap_at s.kind true src s.at) src s word cause

-- "The first rule is the start if `%start` gave none."
abbrev pub start_or : Option (ℕ × ℕ) → State → ℕ → ℕ → State
start_or None s from to = with_singles s (with_start s.singles (Some (from, to)))
start_or (Some (a, b)) s from to = s

unfoldable pub first_start : State → ℕ → ℕ → State
first_start s from to = start_or s.singles.start s from to

-- "a type up to a single colon", trimmed
abbrev pub colon_given : Result (ℕ × ℕ × Place) ℕ → State → Typing
colon_given (Ok (to, n, p)) s = record { answer = Going; state = with_at s to; given = Some (p.from, p.to) }
colon_given (Err i) s = record { answer = Refused (Fault ReachedEnd i); state = s; given = None }

unfoldable pub colon_type : List ℕ → State → Typing
colon_type src s = colon_given (colon_text_at src s.at) s

-- "In kind 2 the name is followed by `->`", else 8
abbrev pub arrow_passed : Answer → List ℕ → State → Typing
arrow_passed Going src s = colon_type src s
arrow_passed Done src s = record { answer = Done; state = s; given = None }
arrow_passed (Refused f) src s = record { answer = Refused f; state = s; given = None }

abbrev pub arrow_out : List ℕ → Out0 → Typing
arrow_out src o = arrow_passed o.answer src o.state

unfoldable pub arrow_type : List ℕ → State → Typing
arrow_type src s = arrow_out src (pass_mark src s (45 ∷ 62 ∷ []) MissingRightArrow)

-- "in the others the type is the `%actiontype` text, if any"
unfoldable pub rule_type : List ℕ → State → Typing
rule_type src s = elim (eqb s.kind 2) [ true ↦ arrow_type src s | false ↦ record { answer = Going; state = s; given = s.actiontype } ]

-- "A rule seen again keeps its first span and type."
abbrev pub new_rule : ℕ → Out1 → Heading
new_rule n o = record { answer = o.answer; state = o.state; row = n; t7 = o.a }

abbrev pub rule_found : Option ℕ → State → ℕ → ℕ → Option (ℕ × ℕ) → List ℕ → Heading
rule_found (Some r) s from to given t7 = record { answer = Going; state = s; row = r; t7 = t7 }
rule_found None s from to given t7 = new_rule (count s rules) (push_row s rules (rule_cells from to given) t7)

unfoldable pub enter_rule : List ℕ → State → ℕ → ℕ → Option (ℕ × ℕ) → List ℕ → Heading
enter_rule src s from to given t7 = rule_found (find_name src (width rules) 0 (count s rules) t7 from to) s from to given t7

-- "the rule is entered after the type"
abbrev pub typed_head : Answer → List ℕ → State → Option (ℕ × ℕ) → ℕ → ℕ → List ℕ → Heading
typed_head Going src s given from to t7 = enter_rule src s from to given t7
typed_head Done src s given from to t7 = record { answer = Done; state = s; row = 0; t7 = t7 }
typed_head (Refused f) src s given from to t7 = record { answer = Refused f; state = s; row = 0; t7 = t7 }

abbrev pub head_out : List ℕ → Typing → ℕ → ℕ → List ℕ → Heading
head_out src o from to t7 = typed_head o.answer src o.state o.given from to t7

unfoldable pub named_head : List ℕ → State → ℕ → List ℕ → Heading
named_head src s j t7 = head_out src (rule_type src (with_at (first_start s s.at j) j)) s.at j t7

-- a rule's name; "2 IllegalName" where it was sought
abbrev pub head_found : Result ℕ ℕ → List ℕ → State → List ℕ → Heading
head_found (Ok j) src s t7 = named_head src s j t7
head_found (Err k) src s t7 = record { answer = Refused (Fault IllegalName k); state = s; row = 0; t7 = t7 }

unfoldable pub rule_head : List ℕ → State → List ℕ → Heading
rule_head src s t7 = head_found (name_at src s.at) src s t7

-- the colon, else 7, and the productions
abbrev pub body_passed : Answer → List ℕ → State → ℕ → List ℕ → List ℕ → List ℕ → Itemed
body_passed Going src s row t1 t8 t9 = item_list src s (begun row s.at (count s symbols)) t1 t8 t9
body_passed Done src s row t1 t8 t9 = record { answer = Done; state = s; t1 = t1; t8 = t8; t9 = t9 }
body_passed (Refused f) src s row t1 t8 t9 = record { answer = Refused f; state = s; t1 = t1; t8 = t8; t9 = t9 }

abbrev pub body_out : List ℕ → Out0 → ℕ → List ℕ → List ℕ → List ℕ → Itemed
body_out src o row t1 t8 t9 = body_passed o.answer src o.state row t1 t8 t9

unfoldable pub rule_body : List ℕ → State → ℕ → List ℕ → List ℕ → List ℕ → Itemed
rule_body src s row t1 t8 t9 = body_out src (pass_mark src s (58 ∷ []) MissingColon) row t1 t8 t9

-- a rule: its head, then its body
abbrev pub with_body : List ℕ → Itemed → Ruled
with_body t7 o = record { answer = o.answer; state = o.state; t1 = o.t1; t7 = t7; t8 = o.t8; t9 = o.t9 }

abbrev pub rule_headed : Answer → List ℕ → Heading → List ℕ → List ℕ → List ℕ → Ruled
rule_headed Going src h t1 t8 t9 = with_body h.t7 (rule_body src h.state h.row t1 t8 t9)
rule_headed Done src h t1 t8 t9 = record { answer = Done; state = h.state; t1 = t1; t7 = h.t7; t8 = t8; t9 = t9 }
rule_headed (Refused f) src h t1 t8 t9 = record { answer = Refused f; state = h.state; t1 = t1; t7 = h.t7; t8 = t8; t9 = t9 }

abbrev pub rule_out : List ℕ → Heading → List ℕ → List ℕ → List ℕ → Ruled
rule_out src h t1 t8 t9 = rule_headed h.answer src h t1 t8 t9

unfoldable pub rule_step : List ℕ → State → List ℕ → List ℕ → List ℕ → List ℕ → Ruled
rule_step src s t1 t7 t8 t9 = rule_out src (rule_head src s t7) t1 t8 t9

-- and the spacing behind it
abbrev pub spaced_out : Out0 → Ruled → Ruled
spaced_out z o = record { answer = z.answer; state = z.state; t1 = o.t1; t7 = o.t7; t8 = o.t8; t9 = o.t9 }

abbrev pub rule_spaced : List ℕ → Ruled → Ruled
rule_spaced src o = spaced_out (pass_on src false o.state.at o.answer o.state) o

unfoldable pub next_rule : List ℕ → State → List ℕ → List ℕ → List ℕ → List ℕ → Ruled
next_rule src s t1 t7 t8 t9 = rule_spaced src (rule_step src s t1 t7 t8 t9)

-- `%%`
abbrev pub percents : List ℕ
percents = 37 ∷ 37 ∷ []

-- rules run to the next `%%` or to the source's end
abbrev pub rule_or_end : Bool → Bool → Ruled → Ruled → Turn Ruled
rule_or_end true b o p = stop o
rule_or_end false true o p = stop o
rule_or_end false false o p = onward p.answer p

unfoldable pub rules_turn : List ℕ → Ruled → Turn Ruled
rules_turn src o =
    rule_or_end (leb (length src) o.state.at) (starts_at percents src o.state.at) o (next_rule src o.state o.t1 o.t7 o.t8 o.t9)

unfoldable pub rules_run : List ℕ → State → List ℕ → List ℕ → List ℕ → List ℕ → Ruled
rules_run src s t1 t7 t8 t9 = turns (suc (length src)) (rules_turn src) (record { answer = Going; state = s; t1 = t1; t7 = t7; t8 = t8; t9 = t9 })

-- The section begins with the `%%` that the declarations ended at; where none stands, which does not come of them, the declaration is unknown.
abbrev pub rules_passed : Answer → List ℕ → State → List ℕ → List ℕ → List ℕ → List ℕ → Ruled
rules_passed Going src s t1 t7 t8 t9 = rules_run src s t1 t7 t8 t9
rules_passed Done src s t1 t7 t8 t9 = record { answer = Done; state = s; t1 = t1; t7 = t7; t8 = t8; t9 = t9 }
rules_passed (Refused f) src s t1 t7 t8 t9 = record { answer = Refused f; state = s; t1 = t1; t7 = t7; t8 = t8; t9 = t9 }

abbrev pub rules_out : List ℕ → Out0 → List ℕ → List ℕ → List ℕ → List ℕ → Ruled
rules_out src o t1 t7 t8 t9 = rules_passed o.answer src o.state t1 t7 t8 t9

unfoldable pub rules_all : List ℕ → State → List ℕ → List ℕ → List ℕ → List ℕ → Ruled
rules_all src s t1 t7 t8 t9 = rules_out src (pass_mark src s percents UnknownDeclaration) t1 t7 t8 t9

-- "Behind a second `%%`, spacing passes and the rest is the programs text, given even if empty."
abbrev pub with_programs : Singles → Option (ℕ × ℕ) → Singles
with_programs g p = record { start = g.start; expect = g.expect; expect_rr = g.expect_rr; param = g.param; generics = g.generics; programs = p }

abbrev pub programs_gap : Result (ℕ × ℕ) Refusal → List ℕ → State → Out0
programs_gap (Ok (i, n)) src s = record { answer = Going; state = with_singles (with_at s (length src)) (with_programs s.singles (Some (i, length src))) }
programs_gap (Err f) src s = refused f s

unfoldable pub programs_from : List ℕ → State → Out0
programs_from src s =
    elim (starts_at percents src s.at) [
      | true ↦ programs_gap (gap_at s.kind true src (s.at + 2)) src s
      | false ↦ record { answer = Going; state = s }
    ]
