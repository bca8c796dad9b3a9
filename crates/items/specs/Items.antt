-- Document 01, "Rules", and the crate's `parse_rule` from the rule's colon on: the items of a production, and the productions of a rule.
use Rattle.std.specs.Prelude.{ℕ, suc, ◌+◌, ◌≤◌, ◌<◌, ◌≡◌, List, [], ◌∷◌, Bool, true, false, ◌||◌, ◌&&◌, leb, eqb, length, Option, Some, None, Result, Ok, Err}
use Rattle.scan.specs.Scan.{is_at, starts_at}
use Rattle.scan.specs.Loop.{Turn, more, stop, turns}
use Rattle.scan.specs.declared.Place.{Place}
use Rattle.words.specs.Words.{token_at}
use Rattle.texts.specs.Action.{action_at}
use Rattle.tables.specs.Table.{cell, find_name}
use Rattle.tables.specs.Layout.{tokens, symbols, declared, width}
use Rattle.grammar.specs.declared.State.{State}
use Rattle.grammar.specs.declared.Cause.TheVariants.{IllegalString, IncompleteRule, IncompleteAction, NonEmptyProduction, NotTerminated}
use Rattle.grammar.specs.declared.Refusal.{Refusal}
use Rattle.grammar.specs.declared.Refusal.TheVariants.{Fault}
use Rattle.grammar.specs.declared.Answer.{Answer}
use Rattle.grammar.specs.declared.Answer.TheVariants.{Going, Done, Refused}
use Rattle.grammar.specs.Cells.{symbol_cells}
use Rattle.grammar.specs.State.{Out0, Out1, Out2, count, with_at, gap_at, push_row, enter_step, pass_on, second2}
use Rattle.productions.specs.declared.Production.{Production}
use Rattle.productions.specs.Cells.{push_production}
use Rattle.items.specs.declared.Sort.{Sort}
use Rattle.items.specs.declared.Sort.TheVariants.{BarSort, EndSort, QuotedSort, PrecSort, ActionSort, EmptySort, BareSort}
use Rattle.items.specs.declared.Spotted.{Spotted}

-- what an item gives: on no table, on one, on two, and on the three that a rule's items fill
pub record Made0 : Type 0 where
  pub answer : Answer
  pub state : State
  pub draft : Production

pub record Made1 : Type 0 where
  pub answer : Answer
  pub state : State
  pub draft : Production
  pub a : List ℕ

pub record Made2 : Type 0 where
  pub answer : Answer
  pub state : State
  pub draft : Production
  pub a : List ℕ
  pub b : List ℕ

pub record Made3 : Type 0 where
  pub answer : Answer
  pub state : State
  pub draft : Production
  pub t1 : List ℕ
  pub t8 : List ℕ
  pub t9 : List ℕ

-- what the items of a rule give
pub record Itemed : Type 0 where
  pub answer : Answer
  pub state : State
  pub t1 : List ℕ
  pub t8 : List ℕ
  pub t9 : List ℕ

-- a place of a source that is not too long, where a byte stands
pub record Inside (src : List ℕ) (at : ℕ) : Type 0 where
  pub within : at < length src
  pub short : length src ≤ 65536

-- the marks that tell an item, in the order of the source document
pub record Mark : Type 0 where
  pub word : List ℕ
  pub is : Sort

abbrev mark : List ℕ → Sort → Mark
mark word is = record { word = word; is = is }

-- `%prec`
abbrev pub prec_word : List ℕ
prec_word = 37 ∷ 112 ∷ 114 ∷ 101 ∷ 99 ∷ []

abbrev pub marks : List Mark
marks =
    -- `|`
    mark (124 ∷ []) BarSort
    -- `;`
    ∷ mark (59 ∷ []) EndSort
    -- `"`
    ∷ mark (34 ∷ []) QuotedSort
    -- `'`
    ∷ mark (39 ∷ []) QuotedSort
    ∷ mark prec_word PrecSort
    -- `{`
    ∷ mark (123 ∷ []) ActionSort
    -- `%empty`
    ∷ mark (37 ∷ 101 ∷ 109 ∷ 112 ∷ 116 ∷ 121 ∷ []) EmptySort
    ∷ []

-- the first of the marks that stands at this place; else the item is a bare symbol
unfoldable pub first_mark : List Mark → List ℕ → ℕ → Spotted
first_mark [] src at = record { sort = BareSort; end = at }
first_mark (m ∷ ms) src at =
    elim (starts_at m.word src at) [
      | true ↦ record { sort = m.is; end = at + length m.word }
      | false ↦ first_mark ms src at
    ]

unfoldable pub sort_at : List ℕ → ℕ → Spotted
sort_at src at = first_mark marks src at

-- Places: a mark lies in the source, and has at least one byte
pub record Spots (src : List ℕ) (at : ℕ) (r : Spotted) : Type 0 where
  pub onward : at ≤ r.end
  pub inside : r.end ≤ length src
  pub beyond : (r.sort ≡ BareSort → ⊥) → at < r.end

-- A production with nothing in it stands where its first item would have begun.
abbrev pub begun : ℕ → ℕ → ℕ → Production
begun rule from first = record { rule = rule; from = from; to = from; first = first; last = first; prec = None; action = None }

-- "A production runs from its first item to the end of its last, or to the `{`."
abbrev pub with_to : Production → ℕ → Production
with_to d to = record { rule = d.rule; from = d.from; to = to; first = d.first; last = d.last; prec = d.prec; action = d.action }

-- "A later `%prec` replaces an earlier one."
abbrev pub with_prec : Production → ℕ → ℕ → Production
with_prec d a b = record { rule = d.rule; from = d.from; to = d.to; first = d.first; last = d.last; prec = Some (a, b); action = d.action }

abbrev pub with_action : Production → ℕ → ℕ → ℕ → ℕ → Production
with_action d a b c e = record { rule = d.rule; from = d.from; to = d.to; first = d.first; last = d.last; prec = d.prec; action = Some (a, b, c, e) }

abbrev pub with_last : Production → ℕ → Production
with_last d n = record { rule = d.rule; from = d.from; to = d.to; first = d.first; last = n; prec = d.prec; action = d.action }

-- outcomes with the production under way
abbrev pub made0 : Out0 → Production → Made0
made0 o d = record { answer = o.answer; state = o.state; draft = d }

abbrev pub made1 : Out0 → Production → List ℕ → Made1
made1 o d a = record { answer = o.answer; state = o.state; draft = d; a = a }

abbrev pub made2 : Out2 → Production → Made2
made2 o d = record { answer = o.answer; state = o.state; draft = d; a = o.a; b = o.b }

abbrev pub refused0 : Refusal → State → Production → Made0
refused0 f s d = record { answer = Refused f; state = s; draft = d }

abbrev pub refused1 : Refusal → State → Production → List ℕ → Made1
refused1 f s d a = record { answer = Refused f; state = s; draft = d; a = a }

abbrev pub refused2 : Refusal → State → Production → List ℕ → List ℕ → Made2
refused2 f s d a b = record { answer = Refused f; state = s; draft = d; a = a; b = b }

-- "A quoted symbol is a token and joins table 1": its row there comes before that of table 9
abbrev pub symbol_entered : Answer → Out1 → ℕ → ℕ → List ℕ → Out2
symbol_entered Going o from to t9 = second2 o.a (push_row o.state symbols (symbol_cells 2 from to) t9)
symbol_entered Done o from to t9 = record { answer = Done; state = o.state; a = o.a; b = t9 }
symbol_entered (Refused f) o from to t9 = record { answer = Refused f; state = o.state; a = o.a; b = t9 }

unfoldable pub token_symbol : List ℕ → State → ℕ → ℕ → List ℕ → List ℕ → Out2
token_symbol src s from to t1 t9 = symbol_entered (enter_step src s from to false t1).answer (enter_step src s from to false t1) from to t9

-- a quoted symbol's spacing comes before its rows
abbrev pub quoted_gap : Result (ℕ × ℕ) Refusal → List ℕ → State → Production → ℕ → ℕ → ℕ → List ℕ → List ℕ → Made2
quoted_gap (Ok (i, n)) src s d from to end t1 t9 = made2 (token_symbol src (with_at s i) from to t1 t9) (with_to d end)
quoted_gap (Err f) src s d from to end t1 t9 = refused2 f s d t1 t9

unfoldable pub quoted_rows : List ℕ → State → Production → ℕ → ℕ → ℕ → List ℕ → List ℕ → Made2
quoted_rows src s d from to end t1 t9 = quoted_gap (gap_at s.kind true src end) src s d from to end t1 t9

abbrev pub quoted_found : Result (Place × ℕ × Bool) ℕ → List ℕ → State → Production → List ℕ → List ℕ → Made2
quoted_found (Ok (p, end, q)) src s d t1 t9 = quoted_rows src s d p.from p.to end t1 t9
quoted_found (Err k) src s d t1 t9 = refused2 (Fault IllegalString k) s d t1 t9

unfoldable pub quoted_item : List ℕ → State → Production → List ℕ → List ℕ → Made2
quoted_item src s d t1 t9 = quoted_found (token_at src s.at) src s d t1 t9

-- "so does a `%prec` name"
abbrev pub name_entered : List ℕ → ℕ → Out1 → Production → Made1
name_entered src end o d = made1 (pass_on src false end o.answer o.state) d o.a

abbrev pub prec_found : Result (Place × ℕ × Bool) ℕ → List ℕ → State → Production → List ℕ → Made1
prec_found (Ok (p, end, q)) src s d t1 = name_entered src end (enter_step src s p.from p.to false t1) (with_to (with_prec d p.from p.to) end)
prec_found (Err k) src s d t1 = refused1 (Fault IllegalString k) s d t1

unfoldable pub prec_name : List ℕ → State → Production → List ℕ → Made1
prec_name src s d t1 = prec_found (token_at src s.at) src s d t1

abbrev pub prec_gap : Result (ℕ × ℕ) Refusal → List ℕ → State → Production → List ℕ → Made1
prec_gap (Ok (i, n)) src s d t1 = prec_name src (with_at s i) d t1
prec_gap (Err f) src s d t1 = refused1 f s d t1

-- from behind the keyword on, which is where the state stands
unfoldable pub prec_item : List ℕ → State → Production → List ℕ → Made1
prec_item src s d t1 = prec_gap (gap_at s.kind true src s.at) src s d t1

-- "After an action only `|` or `;` may stand, else 11."
unfoldable pub may_end : List ℕ → ℕ → Bool
may_end src k = is_at 124 src k || is_at 59 src k

abbrev pub action_gap : Result (ℕ × ℕ) Refusal → List ℕ → State → Production → Made0
action_gap (Ok (i, n)) src s d =
    elim (may_end src i) [
      | true ↦ record { answer = Going; state = with_at s i; draft = d }
      | false ↦ refused0 (Fault NotTerminated i) (with_at s i) d
    ]
action_gap (Err f) src s d = refused0 f s d

unfoldable pub after_action : List ℕ → State → Production → ℕ → Made0
after_action src s d end = action_gap (gap_at s.kind true src end) src s d

-- "its action is [..] the place of its trimmed text beside the crate's span"; the production runs "to the `{`"; "6 IncompleteAction"
abbrev pub action_found : Result (ℕ × ℕ × Place × Place) ℕ → List ℕ → State → Production → Made0
action_found (Ok (end, n, p, q)) src s d = after_action src s (with_action (with_to d s.at) p.from p.to q.from q.to) end
action_found (Err i) src s d = refused0 (Fault IncompleteAction i) s d

unfoldable pub action_item : List ℕ → State → Production → Made0
action_item src s d = action_found (action_at src s.at) src s d

-- "`%empty` wants no symbol before and `|`, `;`, `{` or `%prec` after", else "9 NonEmptyProduction" at its first byte
unfoldable pub may_follow : List ℕ → ℕ → Bool
may_follow src k = (may_end src k || is_at 123 src k) || starts_at prec_word src k

abbrev pub empty_gap : Result (ℕ × ℕ) Refusal → List ℕ → State → Production → ℕ → Made0
empty_gap (Ok (k, n)) src s d first =
    elim (eqb (count s symbols) d.first && may_follow src k) [
      | true ↦ record { answer = Going; state = with_at s k; draft = with_to d s.at }
      | false ↦ refused0 (Fault NonEmptyProduction first) s d
    ]
empty_gap (Err f) src s d first = refused0 f s d

-- from behind the keyword on, which begins at `first`
unfoldable pub empty_item : List ℕ → State → Production → ℕ → Made0
empty_item src s d first = empty_gap (gap_at s.kind true src s.at) src s d first

-- "A bare symbol is a token only if `%token` declared it, else a rule."
abbrev pub kind_found : Option ℕ → List ℕ → ℕ
kind_found (Some r) t1 = elim (eqb (cell (width tokens) t1 r declared) 1) [ true ↦ 2 | false ↦ 1 ]
kind_found None t1 = 1

unfoldable pub symbol_kind : List ℕ → ℕ → List ℕ → ℕ → ℕ → ℕ
symbol_kind src n t1 from to = kind_found (find_name src (width tokens) 0 n t1 from to) t1

-- a bare symbol's row comes before its spacing
abbrev pub bare_found : Result (Place × ℕ × Bool) ℕ → List ℕ → State → Production → List ℕ → List ℕ → Made1
bare_found (Ok (p, end, q)) src s d t1 t9 =
    name_entered src end (push_row s symbols (symbol_cells (symbol_kind src (count s tokens) t1 p.from p.to) p.from p.to) t9) (with_to d end)
bare_found (Err k) src s d t1 t9 = refused1 (Fault IllegalString k) s d t9

unfoldable pub bare_item : List ℕ → State → Production → List ℕ → List ℕ → Made1
bare_item src s d t1 t9 = bare_found (token_at src s.at) src s d t1 t9

-- the production's symbols are those since it began
unfoldable pub end_production : State → Production → List ℕ → Out1
end_production s d t8 = push_production s (with_last d (count s symbols)) t8

-- behind a `|` the next production of the rule begins, after spacing
abbrev pub bar_passed : Out0 → Production → List ℕ → Made1
bar_passed o d t8 = made1 o (begun d.rule o.state.at (count o.state symbols)) t8

unfoldable pub bar_item : List ℕ → State → Production → List ℕ → Made1
bar_item src s d t8 = bar_passed (pass_on src false s.at (end_production s d t8).answer (end_production s d t8).state) d (end_production s d t8).a

-- behind a `;` the rule is done
abbrev pub rule_end : Answer → Answer
rule_end Going = Done
rule_end Done = Done
rule_end (Refused f) = Refused f

unfoldable pub end_item : State → Production → List ℕ → Made1
end_item s d t8 = record { answer = rule_end (end_production s d t8).answer; state = (end_production s d t8).state; draft = d; a = (end_production s d t8).a }

-- an outcome on some of the three tables, the others as they were
abbrev pub on_none : List ℕ → List ℕ → List ℕ → Made0 → Made3
on_none t1 t8 t9 o = record { answer = o.answer; state = o.state; draft = o.draft; t1 = t1; t8 = t8; t9 = t9 }

abbrev pub on_1 : List ℕ → List ℕ → Made1 → Made3
on_1 t8 t9 o = record { answer = o.answer; state = o.state; draft = o.draft; t1 = o.a; t8 = t8; t9 = t9 }

abbrev pub on_8 : List ℕ → List ℕ → Made1 → Made3
on_8 t1 t9 o = record { answer = o.answer; state = o.state; draft = o.draft; t1 = t1; t8 = o.a; t9 = t9 }

abbrev pub on_9 : List ℕ → List ℕ → Made1 → Made3
on_9 t1 t8 o = record { answer = o.answer; state = o.state; draft = o.draft; t1 = t1; t8 = t8; t9 = o.a }

abbrev pub on_1_9 : List ℕ → Made2 → Made3
on_1_9 t8 o = record { answer = o.answer; state = o.state; draft = o.draft; t1 = o.a; t8 = t8; t9 = o.b }

-- the item of a sort: s is where it stands, n behind its mark
abbrev pub by_sort : Sort → List ℕ → State → State → Production → List ℕ → List ℕ → List ℕ → Made3
by_sort BarSort src s n d t1 t8 t9 = on_8 t1 t9 (bar_item src n d t8)
by_sort EndSort src s n d t1 t8 t9 = on_8 t1 t9 (end_item n d t8)
by_sort QuotedSort src s n d t1 t8 t9 = on_1_9 t8 (quoted_item src s d t1 t9)
by_sort PrecSort src s n d t1 t8 t9 = on_1 t8 t9 (prec_item src n d t1)
by_sort ActionSort src s n d t1 t8 t9 = on_none t1 t8 t9 (action_item src s d)
by_sort EmptySort src s n d t1 t8 t9 = on_none t1 t8 t9 (empty_item src n d s.at)
by_sort BareSort src s n d t1 t8 t9 = on_9 t1 t8 (bare_item src s d t1 t9)

abbrev pub by_spotted : Spotted → List ℕ → State → Production → List ℕ → List ℕ → List ℕ → Made3
by_spotted r src s d t1 t8 t9 = by_sort r.sort src s (with_at s r.end) d t1 t8 t9

unfoldable pub item_step : List ℕ → State → Production → List ℕ → List ℕ → List ℕ → Made3
item_step src s d t1 t8 t9 = by_spotted (sort_at src s.at) src s d t1 t8 t9

-- items go on up to the one that is done or refused; "4 IncompleteRule" at the source's end
abbrev pub item_next : Answer → Made3 → Turn Made3
item_next Going o = more o
item_next Done o = stop (record { answer = Going; state = o.state; draft = o.draft; t1 = o.t1; t8 = o.t8; t9 = o.t9 })
item_next (Refused f) o = stop o

abbrev pub item_or_end : Bool → Made3 → Made3 → Turn Made3
item_or_end true o p = stop (record { answer = Refused (Fault IncompleteRule o.state.at); state = o.state; draft = o.draft; t1 = o.t1; t8 = o.t8; t9 = o.t9 })
item_or_end false o p = item_next p.answer p

unfoldable pub item_turn : List ℕ → Made3 → Turn Made3
item_turn src o = item_or_end (leb (length src) o.state.at) o (item_step src o.state o.draft o.t1 o.t8 o.t9)

abbrev pub listed : Made3 → Itemed
listed o = record { answer = o.answer; state = o.state; t1 = o.t1; t8 = o.t8; t9 = o.t9 }

-- the items of a rule from where the state stands, the first production drafted
unfoldable pub item_list : List ℕ → State → Production → List ℕ → List ℕ → List ℕ → Itemed
item_list src s d t1 t8 t9 = listed (turns (suc (length src)) (item_turn src) (record { answer = Going; state = s; draft = d; t1 = t1; t8 = t8; t9 = t9 }))
