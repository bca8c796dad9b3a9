-- Small inputs of the declarations that give one thing, under one statement: each from behind its keyword.
use Rattle.std.specs.Prelude.{ℕ, ◌*◌, ◌≡◌, refl, true, false, List, [], ◌∷◌, take, replicate, Option, Some, None}
use Rattle.scan.specs.Scan.{is_letter, is_digit, is_eol, in_class, run_end, run_end_at}
use Rattle.scan.specs.Loop.{turns}
use Rattle.scan.specs.Table.{Case, same, all}
use Rattle.utf8.specs.White.{is_white}
use Rattle.utf8.specs.Utf8.{lead_of, follow, begun, decode, decode_at}
use Rattle.trim.specs.Trim.{passed, passed_at, kept, moved, trim_turn, trimmed}
use Rattle.spacing.specs.Spacing.{is_blank, spacing, spacing_at}
use Rattle.words.specs.Words.{word_at, named, name_at}
use Rattle.words.specs.Numbers.{decimal, decimal_at, counted, int_at}
use Rattle.texts.specs.Line.{line_end_at}
use Rattle.texts.specs.Colon.{single, single_from, colon_text, colon_text_at}
use Rattle.tables.specs.Layout.{repeats}
use Rattle.tables.specs.Table.{room, add_row}
use Rattle.grammar.specs.declared.Singles.{Singles}
use Rattle.grammar.specs.declared.State.{State}
use Rattle.grammar.specs.declared.Answer.{Answer}
use Rattle.grammar.specs.declared.Answer.TheVariants.{Going, Done, Refused}
use Rattle.grammar.specs.Refusals.{told}
use Rattle.grammar.specs.State.{Out1, count, with_at, with_singles, with_actiontype, fresh, no_singles, gap_of, gap_at, push_row, list_repeat, past_gap, tied1}
use Rattle.settings.specs.Singles.{with_start, with_expected, with_param, with_generics}
use Rattle.settings.specs.Settings.{start_named, start_decl, expect_given, expect_decl, actiontype_named, actiontype_decl, param_typed, param_decl, generics_decl}

-- a reading that stands at an index, with nothing given yet or with one thing
abbrev stand : ℕ → State
stand i = with_at (fresh 1) i

abbrev having : Singles → ℕ → State
having g i = with_singles (stand i) g

abbrev given_start : ℕ → State
given_start i = having (with_start no_singles (Some (0, 1))) i

abbrev given_expect : ℕ → State
given_expect i = having (with_expected no_singles false (Some (5, 0, 1))) i

abbrev given_rr : ℕ → State
given_rr i = having (with_expected no_singles true (Some (6, 1, 2))) i

abbrev given_param : ℕ → State
given_param i = having (with_param no_singles (Some (0, 1, 2, 3))) i

abbrev given_generics : ℕ → State
given_generics i = having (with_generics no_singles (Some (0, 1))) i

abbrev given_type : ℕ → State
given_type i = with_actiontype (stand i) (Some (0, 1))

-- room for one row of table 10
abbrev space : List ℕ
space = replicate 5 0

-- what came of a step: 0 and where it stands, or document 01's number, place and table
abbrev answer_of : Answer → ℕ → List ℕ → List ℕ
answer_of Going at rest = 0 ∷ at ∷ rest
answer_of Done at rest = 0 ∷ at ∷ rest
answer_of (Refused f) at rest = (told f).number ∷ (told f).from ∷ (told f).to ∷ (told f).table ∷ rest

-- then what is given, each behind its number: 1 start, 2 expect, 3 expect_rr, 4 parse-param, 5 generics, 6 actiontype
abbrev part_of : ℕ → Option (ℕ × ℕ) → List ℕ → List ℕ
part_of n None rest = rest
part_of n (Some (a, b)) rest = n ∷ a ∷ b ∷ rest

abbrev expect_of : ℕ → Option (ℕ × ℕ × ℕ) → List ℕ → List ℕ
expect_of n None rest = rest
expect_of n (Some (v, a, b)) rest = n ∷ v ∷ a ∷ b ∷ rest

abbrev param_of : Option (ℕ × ℕ × ℕ × ℕ) → List ℕ → List ℕ
param_of None rest = rest
param_of (Some (a, b, c, d)) rest = 4 ∷ a ∷ b ∷ c ∷ d ∷ rest

abbrev given_of : State → List ℕ → List ℕ
given_of s rest =
    part_of 1 s.singles.start
    (expect_of 2 s.singles.expect
    (expect_of 3 s.singles.expect_rr
    (param_of s.singles.param (part_of 5 s.singles.generics (part_of 6 s.actiontype rest)))))

-- then the rows of table 10
unfoldable pub numbers : Out1 → List ℕ
numbers o = answer_of o.answer o.state.at (given_of o.state (take (count o.state repeats * 5) o.a))

unfoldable pub row : Out1 → List ℕ → Case Out1
row o gives = record { input = o; gives = gives }

unfoldable pub table : List (Case Out1)
table =
    -- `%start a`
    row (start_decl (37 ∷ 115 ∷ 116 ∷ 97 ∷ 114 ∷ 116 ∷ 32 ∷ 97 ∷ []) (stand 6) space) (0 ∷ 8 ∷ 1 ∷ 7 ∷ 8 ∷ [])
    -- `%start a.b1 %%`
    ∷ row (start_decl (37 ∷ 115 ∷ 116 ∷ 97 ∷ 114 ∷ 116 ∷ 32 ∷ 97 ∷ 46 ∷ 98 ∷ 49 ∷ 32 ∷ 37 ∷ 37 ∷ []) (stand 6) space) (0 ∷ 12 ∷ 1 ∷ 7 ∷ 11 ∷ [])
    -- `%starta\n\n/**/b`
    ∷ row (start_decl (37 ∷ 115 ∷ 116 ∷ 97 ∷ 114 ∷ 116 ∷ 97 ∷ 10 ∷ 10 ∷ 47 ∷ 42 ∷ 42 ∷ 47 ∷ 98 ∷ []) (stand 6) space) (0 ∷ 13 ∷ 1 ∷ 6 ∷ 7 ∷ [])
    -- `%start`
    ∷ row (start_decl (37 ∷ 115 ∷ 116 ∷ 97 ∷ 114 ∷ 116 ∷ []) (stand 6) space) (2 ∷ 6 ∷ 6 ∷ 0 ∷ [])
    -- `%start 1`
    ∷ row (start_decl (37 ∷ 115 ∷ 116 ∷ 97 ∷ 114 ∷ 116 ∷ 32 ∷ 49 ∷ []) (stand 6) space) (2 ∷ 7 ∷ 7 ∷ 0 ∷ [])
    -- `%start \na`
    ∷ row (start_decl (37 ∷ 115 ∷ 116 ∷ 97 ∷ 114 ∷ 116 ∷ 32 ∷ 10 ∷ 97 ∷ []) (stand 6) space) (13 ∷ 7 ∷ 7 ∷ 0 ∷ [])
    -- `%start/*`
    ∷ row (start_decl (37 ∷ 115 ∷ 116 ∷ 97 ∷ 114 ∷ 116 ∷ 47 ∷ 42 ∷ []) (stand 6) space) (5 ∷ 6 ∷ 6 ∷ 0 ∷ [])
    -- `%start a/*`
    ∷ row (start_decl (37 ∷ 115 ∷ 116 ∷ 97 ∷ 114 ∷ 116 ∷ 32 ∷ 97 ∷ 47 ∷ 42 ∷ []) (stand 6) space) (5 ∷ 8 ∷ 8 ∷ 0 ∷ 1 ∷ 7 ∷ 8 ∷ [])
    -- `%start b`, behind a start at 0 to 1
    ∷ row (start_decl (37 ∷ 115 ∷ 116 ∷ 97 ∷ 114 ∷ 116 ∷ 32 ∷ 98 ∷ []) (given_start 6) space) (0 ∷ 8 ∷ 1 ∷ 0 ∷ 1 ∷ 25 ∷ 0 ∷ 1 ∷ 7 ∷ 8 ∷ [])
    -- `%start b`, behind a start at 0 to 1, no room
    ∷ row (start_decl (37 ∷ 115 ∷ 116 ∷ 97 ∷ 114 ∷ 116 ∷ 32 ∷ 98 ∷ []) (given_start 6) []) (42 ∷ 7 ∷ 8 ∷ 10 ∷ 1 ∷ 0 ∷ 1 ∷ [])
    -- `%expect 12 a`
    ∷ row (expect_decl (37 ∷ 101 ∷ 120 ∷ 112 ∷ 101 ∷ 99 ∷ 116 ∷ 32 ∷ 49 ∷ 50 ∷ 32 ∷ 97 ∷ []) (stand 7) false space) (0 ∷ 11 ∷ 2 ∷ 12 ∷ 8 ∷ 10 ∷ [])
    -- `%expect18446744073709551615`
    ∷ row (expect_decl (37 ∷ 101 ∷ 120 ∷ 112 ∷ 101 ∷ 99 ∷ 116 ∷ 49 ∷ 56 ∷ 52 ∷ 52 ∷ 54 ∷ 55 ∷ 52 ∷ 52 ∷ 48 ∷ 55 ∷ 51 ∷ 55 ∷ 48 ∷ 57 ∷ 53 ∷ 53 ∷ 49 ∷ 54 ∷ 49 ∷ 53 ∷ []) (stand 7) false space) (0 ∷ 27 ∷ 2 ∷ 18446744073709551615 ∷ 7 ∷ 27 ∷ [])
    -- `%expect18446744073709551616`
    ∷ row (expect_decl (37 ∷ 101 ∷ 120 ∷ 112 ∷ 101 ∷ 99 ∷ 116 ∷ 49 ∷ 56 ∷ 52 ∷ 52 ∷ 54 ∷ 55 ∷ 52 ∷ 52 ∷ 48 ∷ 55 ∷ 51 ∷ 55 ∷ 48 ∷ 57 ∷ 53 ∷ 53 ∷ 49 ∷ 54 ∷ 49 ∷ 54 ∷ []) (stand 7) false space) (1 ∷ 7 ∷ 7 ∷ 0 ∷ [])
    -- `%expect x`
    ∷ row (expect_decl (37 ∷ 101 ∷ 120 ∷ 112 ∷ 101 ∷ 99 ∷ 116 ∷ 32 ∷ 120 ∷ []) (stand 7) false space) (1 ∷ 8 ∷ 8 ∷ 0 ∷ [])
    -- `%expect\n1`
    ∷ row (expect_decl (37 ∷ 101 ∷ 120 ∷ 112 ∷ 101 ∷ 99 ∷ 116 ∷ 10 ∷ 49 ∷ []) (stand 7) false space) (13 ∷ 7 ∷ 7 ∷ 0 ∷ [])
    -- `%expect 7`, behind 5 expected at 0 to 1
    ∷ row (expect_decl (37 ∷ 101 ∷ 120 ∷ 112 ∷ 101 ∷ 99 ∷ 116 ∷ 32 ∷ 55 ∷ []) (given_expect 7) false space) (0 ∷ 9 ∷ 2 ∷ 5 ∷ 0 ∷ 1 ∷ 23 ∷ 0 ∷ 1 ∷ 8 ∷ 9 ∷ [])
    -- `%expect 7`, behind 6 expected at 1 to 2
    ∷ row (expect_decl (37 ∷ 101 ∷ 120 ∷ 112 ∷ 101 ∷ 99 ∷ 116 ∷ 32 ∷ 55 ∷ []) (given_rr 7) false space) (0 ∷ 9 ∷ 2 ∷ 7 ∷ 8 ∷ 9 ∷ 3 ∷ 6 ∷ 1 ∷ 2 ∷ [])
    -- `%expect_rr 0`
    ∷ row (expect_decl (37 ∷ 101 ∷ 120 ∷ 112 ∷ 101 ∷ 99 ∷ 116 ∷ 45 ∷ 114 ∷ 114 ∷ 32 ∷ 48 ∷ []) (stand 10) true space) (0 ∷ 12 ∷ 3 ∷ 0 ∷ 11 ∷ 12 ∷ [])
    -- `%expect_rr 7`, behind 6 expected at 1 to 2
    ∷ row (expect_decl (37 ∷ 101 ∷ 120 ∷ 112 ∷ 101 ∷ 99 ∷ 116 ∷ 45 ∷ 114 ∷ 114 ∷ 32 ∷ 55 ∷ []) (given_rr 10) true space) (0 ∷ 12 ∷ 3 ∷ 6 ∷ 1 ∷ 2 ∷ 24 ∷ 1 ∷ 2 ∷ 11 ∷ 12 ∷ [])
    -- `%actiontype T \nx`
    ∷ row (actiontype_decl (37 ∷ 97 ∷ 99 ∷ 116 ∷ 105 ∷ 111 ∷ 110 ∷ 116 ∷ 121 ∷ 112 ∷ 101 ∷ 32 ∷ 84 ∷ 32 ∷ 10 ∷ 120 ∷ []) (stand 11) space) (0 ∷ 15 ∷ 6 ∷ 12 ∷ 14 ∷ [])
    -- `%actiontype`
    ∷ row (actiontype_decl (37 ∷ 97 ∷ 99 ∷ 116 ∷ 105 ∷ 111 ∷ 110 ∷ 116 ∷ 121 ∷ 112 ∷ 101 ∷ []) (stand 11) space) (0 ∷ 11 ∷ 6 ∷ 11 ∷ 11 ∷ [])
    -- `%actiontype U`, behind an action type at 0 to 1
    ∷ row (actiontype_decl (37 ∷ 97 ∷ 99 ∷ 116 ∷ 105 ∷ 111 ∷ 110 ∷ 116 ∷ 121 ∷ 112 ∷ 101 ∷ 32 ∷ 85 ∷ []) (given_type 11) space) (0 ∷ 13 ∷ 6 ∷ 0 ∷ 1 ∷ 26 ∷ 0 ∷ 1 ∷ 12 ∷ 13 ∷ [])
    -- `%parse-param a b : T \nx`
    ∷ row (tied1 (param_decl (37 ∷ 112 ∷ 97 ∷ 114 ∷ 115 ∷ 101 ∷ 45 ∷ 112 ∷ 97 ∷ 114 ∷ 97 ∷ 109 ∷ 32 ∷ 97 ∷ 32 ∷ 98 ∷ 32 ∷ 58 ∷ 32 ∷ 84 ∷ 32 ∷ 10 ∷ 120 ∷ []) (stand 12)) space) (0 ∷ 22 ∷ 4 ∷ 13 ∷ 16 ∷ 19 ∷ 21 ∷ [])
    -- `%parse-param a::b`
    ∷ row (tied1 (param_decl (37 ∷ 112 ∷ 97 ∷ 114 ∷ 115 ∷ 101 ∷ 45 ∷ 112 ∷ 97 ∷ 114 ∷ 97 ∷ 109 ∷ 32 ∷ 97 ∷ 58 ∷ 58 ∷ 98 ∷ []) (stand 12)) space) (16 ∷ 17 ∷ 17 ∷ 0 ∷ [])
    -- `%parse-param a:\n_t`
    ∷ row (tied1 (param_decl (37 ∷ 112 ∷ 97 ∷ 114 ∷ 115 ∷ 101 ∷ 45 ∷ 112 ∷ 97 ∷ 114 ∷ 97 ∷ 109 ∷ 32 ∷ 97 ∷ 58 ∷ 10 ∷ 84 ∷ []) (stand 12)) space) (13 ∷ 15 ∷ 15 ∷ 0 ∷ [])
    -- `%parse-parama:T`, behind a parameter
    ∷ row (tied1 (param_decl (37 ∷ 112 ∷ 97 ∷ 114 ∷ 115 ∷ 101 ∷ 45 ∷ 112 ∷ 97 ∷ 114 ∷ 97 ∷ 109 ∷ 97 ∷ 58 ∷ 84 ∷ []) (given_param 12)) space) (0 ∷ 15 ∷ 4 ∷ 12 ∷ 13 ∷ 14 ∷ 15 ∷ [])
    -- `%parse-generics 'a, T \n`
    ∷ row (tied1 (generics_decl (37 ∷ 112 ∷ 97 ∷ 114 ∷ 115 ∷ 101 ∷ 45 ∷ 103 ∷ 101 ∷ 110 ∷ 101 ∷ 114 ∷ 105 ∷ 99 ∷ 115 ∷ 32 ∷ 39 ∷ 97 ∷ 44 ∷ 32 ∷ 84 ∷ 32 ∷ 10 ∷ []) (stand 15)) space) (0 ∷ 23 ∷ 5 ∷ 16 ∷ 22 ∷ [])
    -- `%parse-generics\n_t`
    ∷ row (tied1 (generics_decl (37 ∷ 112 ∷ 97 ∷ 114 ∷ 115 ∷ 101 ∷ 45 ∷ 103 ∷ 101 ∷ 110 ∷ 101 ∷ 114 ∷ 105 ∷ 99 ∷ 115 ∷ 10 ∷ 84 ∷ []) (stand 15)) space) (13 ∷ 15 ∷ 15 ∷ 0 ∷ [])
    -- `%parse-genericsT`, behind generics at 0 to 1
    ∷ row (tied1 (generics_decl (37 ∷ 112 ∷ 97 ∷ 114 ∷ 115 ∷ 101 ∷ 45 ∷ 103 ∷ 101 ∷ 110 ∷ 101 ∷ 114 ∷ 105 ∷ 99 ∷ 115 ∷ 84 ∷ []) (given_generics 15)) space) (0 ∷ 16 ∷ 5 ∷ 15 ∷ 16 ∷ [])
    ∷ []

pub table_holds : all numbers table ≡ true
unfolding all same row table numbers start_decl start_named expect_decl expect_given actiontype_decl actiontype_named param_decl param_typed generics_decl list_repeat push_row add_row room past_gap gap_at gap_of spacing spacing_at is_blank is_eol name_at named word_at in_class is_letter is_digit run_end run_end_at int_at counted decimal decimal_at line_end_at colon_text_at colon_text single_from single turns trimmed trim_turn moved kept passed passed_at is_white decode_at decode begun follow lead_of
table_holds = refl
