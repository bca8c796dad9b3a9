-- Document 01, "Declarations": "`%token` and `%expect-unused` lists run to the next `%`."; and document 02, request Nine: "`%type` with words spelled as in `%expect-unused`".
use Rattle.std.specs.Prelude.{ℕ, suc, List, Bool, true, false, leb, eqb, length, get_or, Option, Result, Ok, Err}
use Rattle.scan.specs.Loop.{Turn, stop, turns}
use Rattle.scan.specs.declared.Place.{Place}
use Rattle.words.specs.Words.{name_at, token_at}
use Rattle.tables.specs.Layout.{unused}
use Rattle.grammar.specs.declared.State.{State}
use Rattle.grammar.specs.declared.Cause.TheVariants.{IllegalString, UnknownSymbol}
use Rattle.grammar.specs.declared.Refusal.TheVariants.{Fault}
use Rattle.grammar.specs.declared.Answer.{Answer}
use Rattle.grammar.specs.declared.Answer.TheVariants.{Going, Done, Refused}
use Rattle.grammar.specs.declared.Refusal.{Refusal}
use Rattle.grammar.specs.Cells.{kind_cells}
use Rattle.grammar.specs.State.{Out1, Out3, with_at, gap_at, push_row, enter_step, behind1, tied1, tied3, refused, onward}
use Rattle.marks.specs.Marks.{Leading, untagged, lead_tag, tag_given, tag_row, behind_word}
use Rattle.lists.specs.declared.WordList.{WordList}
use Rattle.lists.specs.declared.WordList.TheVariants.{TokenList, UnusedList, TypeList}

-- the outcome of a step on one of three tables, the others as they are
abbrev pub first3 : Out1 → List ℕ → List ℕ → Out3
first3 o b c = record { answer = o.answer; state = o.state; a = o.a; b = b; c = c }

abbrev pub second3 : List ℕ → Out1 → List ℕ → Out3
second3 a o c = record { answer = o.answer; state = o.state; a = a; b = o.a; c = c }

abbrev pub third3 : List ℕ → List ℕ → Out1 → Out3
third3 a b o = record { answer = o.answer; state = o.state; a = a; b = b; c = o.a }

-- behind a token's row and that of its tag, the spacing and a number, whose row is of table 16
abbrev pub token_tagged : List ℕ → ℕ → ℕ → ℕ → List ℕ → Out1 → List ℕ → Out3
token_tagged src from to end t1 o t16 = third3 t1 o.a (behind_word src false from to end o.answer o.state t16)

abbrev pub token_entered : List ℕ → Option (ℕ × ℕ) → ℕ → ℕ → ℕ → Out1 → List ℕ → List ℕ → Out3
token_entered src tag from to end o t15 t16 = token_tagged src from to end o.a (tag_row o.answer o.state tag from to t15) t16

-- "`%token`": a token is entered as declared, and one that is there already is marked; 3 is where the token was sought
abbrev pub token_found : Result (Place × ℕ × Bool) ℕ → List ℕ → State → Option (ℕ × ℕ) → List ℕ → List ℕ → List ℕ → Out3
token_found (Ok (p, end, q)) src s tag t1 t15 t16 = token_entered src tag p.from p.to end (enter_step src s p.from p.to true t1) t15 t16
token_found (Err k) src s tag t1 t15 t16 = tied3 (refused (Fault IllegalString k) s) t1 t15 t16

unfoldable pub token_item : List ℕ → State → Option (ℕ × ℕ) → List ℕ → List ℕ → List ℕ → Out3
token_item src s tag t1 t15 t16 = token_found (token_at src s.at) src s tag t1 t15 t16

-- "In `%expect-unused` a word that reads as a name is a rule, else it is a quoted token": its kind, its place and its end, else where it was sought
abbrev pub spelled_token : Result (Place × ℕ × Bool) ℕ → Result (ℕ × ℕ × ℕ × ℕ) ℕ
spelled_token (Ok (p, end, q)) = Ok (2, p.from, p.to, end)
spelled_token (Err k) = Err k

abbrev pub spelled_name : Result ℕ ℕ → List ℕ → ℕ → Result (ℕ × ℕ × ℕ × ℕ) ℕ
spelled_name (Ok j) src i = Ok (1, i, j, j)
spelled_name (Err k) src i = spelled_token (token_at src i)

unfoldable pub spelled_at : List ℕ → ℕ → Result (ℕ × ℕ × ℕ × ℕ) ℕ
spelled_at src i = spelled_name (name_at src i) src i

-- "6 expected unused (kind, place)", else 15
unfoldable pub unused_row : List ℕ → State → ℕ → ℕ → ℕ → ℕ → List ℕ → Out1
unused_row src s kind from to end t = behind1 src false end (push_row s unused (kind_cells kind from to) t)

abbrev pub unused_spelled : Result (ℕ × ℕ × ℕ × ℕ) ℕ → List ℕ → State → List ℕ → Out1
unused_spelled (Ok (kind, from, to, end)) src s t = unused_row src s kind from to end t
unused_spelled (Err k) src s t = tied1 (refused (Fault UnknownSymbol k) s) t

unfoldable pub unused_item : List ℕ → State → List ℕ → Out1
unused_item src s t = unused_spelled (spelled_at src s.at) src s t

-- "they go to table 15 alone and excuse nothing"
unfoldable pub type_row : List ℕ → State → Option (ℕ × ℕ) → ℕ → ℕ → ℕ → List ℕ → Out1
type_row src s tag from to end t = behind1 src false end (tag_given tag s from to t)

abbrev pub type_spelled : Result (ℕ × ℕ × ℕ × ℕ) ℕ → List ℕ → State → Option (ℕ × ℕ) → List ℕ → Out1
type_spelled (Ok (kind, from, to, end)) src s tag t = type_row src s tag from to end t
type_spelled (Err k) src s tag t = tied1 (refused (Fault UnknownSymbol k) s) t

unfoldable pub type_item : List ℕ → State → Option (ℕ × ℕ) → List ℕ → Out1
type_item src s tag t = type_spelled (spelled_at src s.at) src s tag t

-- an item of a list, whose own table is t: of tokens table 1, of words expected unused table 6
abbrev pub list_item : List ℕ → State → WordList → Option (ℕ × ℕ) → List ℕ → List ℕ → List ℕ → Out3
list_item src s TokenList tag t t15 t16 = token_item src s tag t t15 t16
list_item src s UnusedList tag t t15 t16 = first3 (unused_item src s t) t15 t16
list_item src s TypeList tag t t15 t16 = second3 t (type_item src s tag t15) t16

-- the next `%`, or the source's end
unfoldable pub ends : List ℕ → ℕ → Bool
ends src at = elim (leb (length src) at) [ true ↦ true | false ↦ eqb (get_or src at 0) 37 ]

abbrev pub after_item : Bool → Out3 → Out3 → Turn Out3
after_item true o p = stop o
after_item false o p = onward p.answer p

unfoldable pub list_turn : List ℕ → WordList → Option (ℕ × ℕ) → Out3 → Turn Out3
list_turn src what tag o = after_item (ends src o.state.at) o (list_item src o.state what tag o.a o.b o.c)

-- "lists run to the next `%`"
unfoldable pub percent_list : List ℕ → State → WordList → Option (ℕ × ℕ) → List ℕ → List ℕ → List ℕ → Out3
percent_list src s what tag t t15 t16 = turns (suc (length src)) (list_turn src what tag) (record { answer = Going; state = s; a = t; b = t15; c = t16 })

-- the tag in front of the words: of tokens it may stand, of types it has to
abbrev pub lead_list : WordList → List ℕ → State → Leading
lead_list TokenList src s = lead_tag src s false false
lead_list UnusedList src s = untagged (record { answer = Going; state = s })
lead_list TypeList src s = lead_tag src s true false

abbrev pub list_led : Answer → Leading → List ℕ → WordList → List ℕ → List ℕ → List ℕ → Out3
list_led Going l src what t t15 t16 = percent_list src l.state what l.tag t t15 t16
list_led Done l src what t t15 t16 = tied3 (record { answer = Done; state = l.state }) t t15 t16
list_led (Refused f) l src what t t15 t16 = tied3 (refused f l.state) t t15 t16

-- from behind the spacing behind the keyword on
unfoldable pub list_body : List ℕ → State → WordList → List ℕ → List ℕ → List ℕ → Out3
list_body src s what t t15 t16 = list_led (lead_list what src s).answer (lead_list what src s) src what t t15 t16

abbrev pub list_from : Result (ℕ × ℕ) Refusal → List ℕ → State → WordList → List ℕ → List ℕ → List ℕ → Out3
list_from (Ok (i, n)) src s what t t15 t16 = list_body src (with_at s i) what t t15 t16
list_from (Err f) src s what t t15 t16 = tied3 (refused f s) t t15 t16

-- from behind the keyword on, which is where the state stands
unfoldable pub list_decl : List ℕ → State → WordList → List ℕ → List ℕ → List ℕ → Out3
list_decl src s what t t15 t16 = list_from (gap_at s.kind false src s.at) src s what t t15 t16
