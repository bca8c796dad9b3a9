-- Document 02, request Nine: "a `<tag>` and token numbers in `%token` and the precedence lines", and the tag of `%type`; kind 4 alone has them.
use Rattle.std.specs.Prelude.{ℕ, List, Bool, true, false, eqb, ltb, Option, Some, None, Result, Ok, Err}
use Rattle.words.specs.declared.IntError.{IntError}
use Rattle.words.specs.declared.IntError.TheVariants.{NoDigits, TooLarge}
use Rattle.words.specs.declared.TagError.{TagError}
use Rattle.scan.specs.declared.Place.{Place}
use Rattle.words.specs.declared.TagError.TheVariants.{OpenTag, NoTag}
use Rattle.words.specs.Numbers.{int_at}
use Rattle.words.specs.Tags.{tag_at}
use Rattle.tables.specs.Layout.{tags, token_numbers}
use Rattle.grammar.specs.declared.State.{State}
use Rattle.grammar.specs.declared.Cause.TheVariants.{IntegerTooLarge, TagNotClosed, TagMissing}
use Rattle.grammar.specs.declared.Refusal.TheVariants.{Fault}
use Rattle.grammar.specs.declared.Answer.{Answer}
use Rattle.grammar.specs.declared.Answer.TheVariants.{Going, Done, Refused}
use Rattle.grammar.specs.Cells.{tag_cells, number_cells}
use Rattle.grammar.specs.State.{Out0, Out1, push_row, past_gap, pass_on, tied1, behind1, refused}

-- what the tag of a list comes to
pub record Leading : Type 0 where
  pub answer : Answer
  pub state : State
  pub tag : Option (ℕ × ℕ)

abbrev pub untagged : Out0 → Leading
untagged o = record { answer = o.answer; state = o.state; tag = None }

-- spacing behind a tag may count line ends, and ends a list that ends with its line
abbrev pub tagged_by : Out0 → ℕ → ℕ → Leading
tagged_by o from to = record { answer = o.answer; state = o.state; tag = Some (from, to) }

-- where there is none: "50 [..] none after `%type`, where it was sought"
abbrev pub no_tag : Bool → ℕ → State → Leading
no_tag true i s = untagged (refused (Fault TagMissing i) s)
no_tag false i s = untagged (record { answer = Going; state = s })

-- "50 tag not closed on its line, at `<`"
abbrev pub tag_found : Result (Place × ℕ) TagError → List ℕ → State → Bool → Bool → Leading
tag_found (Ok (p, end)) src s wanted line = tagged_by (past_gap src line end s) p.from p.to
tag_found (Err (OpenTag i)) src s wanted line = untagged (refused (Fault TagNotClosed i) s)
tag_found (Err (NoTag i)) src s wanted line = no_tag wanted i s

-- a tag may stand once, in front of the words, and has to where it is wanted
unfoldable pub lead_tag : List ℕ → State → Bool → Bool → Leading
lead_tag src s wanted line =
    elim (eqb s.kind 4) [
      | true ↦ tag_found (tag_at src s.at) src s wanted line
      | false ↦ untagged (record { answer = Going; state = s })
    ]

-- "Table 15 takes tags (name, tag)": a row for each word of a list that has a tag, behind a step that goes on
abbrev pub tag_given : Option (ℕ × ℕ) → State → ℕ → ℕ → List ℕ → Out1
tag_given None s from to t = record { answer = Going; state = s; a = t }
tag_given (Some (i, j)) s from to t = push_row s tags (tag_cells from to i j) t

unfoldable pub tag_row : Answer → State → Option (ℕ × ℕ) → ℕ → ℕ → List ℕ → Out1
tag_row Going s tag from to t = tag_given tag s from to t
tag_row Done s tag from to t = record { answer = Done; state = s; a = t }
tag_row (Refused f) s tag from to t = record { answer = Refused f; state = s; a = t }

-- "16 numbers (name, number; above 32 bits is 1)": 1 is where the number begins
abbrev pub number_given : Result (ℕ × ℕ) IntError → List ℕ → Bool → ℕ → ℕ → State → List ℕ → Out1
number_given (Ok (v, end)) src line from to s t =
    elim (ltb 4294967295 v) [
      | true ↦ tied1 (refused (Fault IntegerTooLarge s.at) s) t
      | false ↦ behind1 src line end (push_row s token_numbers (number_cells from to v) t)
    ]
number_given (Err (NoDigits k)) src line from to s t = record { answer = Going; state = s; a = t }
number_given (Err (TooLarge k)) src line from to s t = tied1 (refused (Fault IntegerTooLarge k) s) t

unfoldable pub number_behind : List ℕ → Bool → ℕ → ℕ → State → List ℕ → Out1
number_behind src line from to s t =
    elim (eqb s.kind 4) [
      | true ↦ number_given (int_at src s.at) src line from to s t
      | false ↦ record { answer = Going; state = s; a = t }
    ]

-- behind the spacing, where that goes on
abbrev pub number_after : Out0 → List ℕ → Bool → ℕ → ℕ → Answer → List ℕ → Out1
number_after o src line from to Going t = number_behind src line from to o.state t
number_after o src line from to Done t = record { answer = Done; state = o.state; a = t }
number_after o src line from to (Refused f) t = record { answer = Refused f; state = o.state; a = t }

-- the spacing behind a word that ends at `end`, and a number and its spacing, if one follows
unfoldable pub behind_word : List ℕ → Bool → ℕ → ℕ → ℕ → Answer → State → List ℕ → Out1
behind_word src line from to end a s t = number_after (pass_on src line end a s) src line from to (pass_on src line end a s).answer t
