-- Document 01, "Declarations": "Precedence [..] lists run until a line end was counted after the spacing behind their keyword [..]. Levels start at 0."
use Rattle.std.specs.Prelude.{ℕ, suc, List, Bool, true, false, leb, length, Option, Result, Ok, Err}
use Rattle.scan.specs.Loop.{Turn, more, stop, turns}
use Rattle.scan.specs.declared.Place.{Place}
use Rattle.words.specs.Words.{token_at}
use Rattle.tables.specs.Layout.{precedences, width}
use Rattle.grammar.specs.declared.State.{State}
use Rattle.grammar.specs.declared.Cause.TheVariants.{IllegalString}
use Rattle.grammar.specs.declared.Refusal.TheVariants.{Fault}
use Rattle.grammar.specs.declared.Answer.{Answer}
use Rattle.grammar.specs.declared.Answer.TheVariants.{Going, Done, Refused}
use Rattle.grammar.specs.declared.Repeat.TheVariants.{RepeatedPrecedence}
use Rattle.grammar.specs.declared.Refusal.{Refusal}
use Rattle.grammar.specs.Cells.{precedence_cells}
use Rattle.grammar.specs.State.{Out1, Out2, Out4, with_at, with_level, next_level, gap_at, once_step, tied4, refused}
use Rattle.marks.specs.Marks.{Leading, lead_tag, tag_row, behind_word}

-- the rows of a word in tables 2 or 10, that of its list's tag, and then the spacing behind it and a number, whose row is of table 16; the line is done where that spacing counts a line end
abbrev pub prec_tagged : List ℕ → ℕ → ℕ → ℕ → Out2 → Out1 → List ℕ → Out4
prec_tagged src from to end o g t16 =
    record {
      answer = (behind_word src true from to end g.answer g.state t16).answer;
      state = (behind_word src true from to end g.answer g.state t16).state;
      a = o.a;
      b = o.b;
      c = g.a;
      d = (behind_word src true from to end g.answer g.state t16).a;
    }

abbrev pub prec_entered : List ℕ → Option (ℕ × ℕ) → ℕ → ℕ → ℕ → Out2 → List ℕ → List ℕ → Out4
prec_entered src tag from to end o t15 t16 = prec_tagged src from to end o (tag_row o.answer o.state tag from to t15) t16

-- a token is given its level and association once; "`%left`, `%right`, `%nonassoc` [..] add no token"
abbrev pub prec_found : Result (Place × ℕ × Bool) ℕ → List ℕ → State → ℕ → ℕ → Option (ℕ × ℕ) → List ℕ → List ℕ → List ℕ → List ℕ → Out4
prec_found (Ok (p, end, q)) src s level assoc tag t2 t10 t15 t16 =
    prec_entered src tag p.from p.to end (once_step src s precedences (width precedences) 0 RepeatedPrecedence (precedence_cells p.from p.to level assoc) t2 t10) t15 t16
prec_found (Err k) src s level assoc tag t2 t10 t15 t16 = tied4 (refused (Fault IllegalString k) s) t2 t10 t15 t16

unfoldable pub prec_item : List ℕ → State → ℕ → ℕ → Option (ℕ × ℕ) → List ℕ → List ℕ → List ℕ → List ℕ → Out4
prec_item src s level assoc tag t2 t10 t15 t16 = prec_found (token_at src s.at) src s level assoc tag t2 t10 t15 t16

-- a line that is done ends the list, and the reading goes on
abbrev pub line_end : Answer → Out4 → Turn Out4
line_end Going o = more o
line_end Done o = stop (record { answer = Going; state = o.state; a = o.a; b = o.b; c = o.c; d = o.d })
line_end (Refused f) o = stop o

abbrev pub after_end : Bool → Out4 → Out4 → Turn Out4
after_end true o p = stop o
after_end false o p = line_end p.answer p

-- a precedence list ends at the source's end too
unfoldable pub prec_turn : List ℕ → ℕ → ℕ → Option (ℕ × ℕ) → Out4 → Turn Out4
prec_turn src level assoc tag o = after_end (leb (length src) o.state.at) o (prec_item src o.state level assoc tag o.a o.b o.c o.d)

unfoldable pub prec_list : List ℕ → State → ℕ → ℕ → Option (ℕ × ℕ) → List ℕ → List ℕ → List ℕ → List ℕ → Out4
prec_list src s level assoc tag t2 t10 t15 t16 = turns (suc (length src)) (prec_turn src level assoc tag) (record { answer = Going; state = s; a = t2; b = t10; c = t15; d = t16 })

-- a tag may stand in front of the words; a line end behind it ends the list
abbrev pub prec_led : Answer → Leading → List ℕ → ℕ → ℕ → List ℕ → List ℕ → List ℕ → List ℕ → Out4
prec_led Going l src level assoc t2 t10 t15 t16 = prec_list src l.state level assoc l.tag t2 t10 t15 t16
prec_led Done l src level assoc t2 t10 t15 t16 = tied4 (record { answer = Going; state = l.state }) t2 t10 t15 t16
prec_led (Refused f) l src level assoc t2 t10 t15 t16 = tied4 (refused f l.state) t2 t10 t15 t16

unfoldable pub prec_body : List ℕ → State → ℕ → ℕ → List ℕ → List ℕ → List ℕ → List ℕ → Out4
prec_body src s level assoc t2 t10 t15 t16 = prec_led (lead_tag src s false true).answer (lead_tag src s false true) src level assoc t2 t10 t15 t16

-- each line takes a level, also one that holds repeats only: the crate raises the level at the end of every line
abbrev pub prec_from : Result (ℕ × ℕ) Refusal → List ℕ → State → ℕ → List ℕ → List ℕ → List ℕ → List ℕ → Out4
prec_from (Ok (i, n)) src s assoc t2 t10 t15 t16 = prec_body src (with_level (with_at s i) (next_level s.level)) s.level assoc t2 t10 t15 t16
prec_from (Err f) src s assoc t2 t10 t15 t16 = tied4 (refused f s) t2 t10 t15 t16

-- from behind the keyword on, which is where the state stands
unfoldable pub prec_decl : List ℕ → State → ℕ → List ℕ → List ℕ → List ℕ → List ℕ → Out4
prec_decl src s assoc t2 t10 t15 t16 = prec_from (gap_at s.kind false src s.at) src s assoc t2 t10 t15 t16
