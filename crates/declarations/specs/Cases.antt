-- Small inputs of the declarations section, under one statement; document 01's are among them, and the crate gives the same numbers, places and rows. Those of kind 4 are request Nine's.
use Rattle.std.specs.Prelude.{ℕ, ◌*◌, ◌≡◌, refl, true, List, [], ◌∷◌, ◌++◌, take, replicate}
use Rattle.scan.specs.Scan.{is_at, begins, starts_at, is_letter, is_digit, is_eol, in_class, run_end, run_end_at}
use Rattle.scan.specs.Lines.{lines_here}
use Rattle.scan.specs.Loop.{turns}
use Rattle.scan.specs.Table.{Case, same, all}
use Rattle.spacing.specs.Spacing.{is_blank, spacing, spacing_at}
use Rattle.words.specs.Words.{word_at, named, name_at, is_quote, closed, quoted_at, bare, token_at}
use Rattle.words.specs.Numbers.{decimal, decimal_at, counted, int_at}
use Rattle.words.specs.Strings.{string, string_from, string_at}
use Rattle.words.specs.Tags.{tag_closed, tag_at}
use Rattle.texts.specs.Line.{line_end_at}
use Rattle.texts.specs.Action.{braced, braced_from}
use Rattle.texts.specs.Mark.{marked, marked_from}
use Rattle.tables.specs.Layout.{tags, token_numbers, bodies, width}
use Rattle.tables.specs.Table.{room, add_row, same_part, has_name, first_row, find_name, enter_token}
use Rattle.keywords.specs.Keywords.{first_of, seen_at}
use Rattle.grammar.specs.declared.State.{State}
use Rattle.grammar.specs.declared.Answer.{Answer}
use Rattle.grammar.specs.declared.Answer.TheVariants.{Going, Done, Refused}
use Rattle.grammar.specs.Refusals.{number_of, from_of}
use Rattle.grammar.specs.State.{count, fresh, next_level, gap_of, gap_at, push_row, list_repeat, enter_step, once_step, past_gap}
use Rattle.settings.specs.Settings.{start_named, start_decl, expect_given, expect_decl, actiontype_named, actiontype_decl}
use Rattle.marks.specs.Marks.{lead_tag, tag_row, number_behind, behind_word}
use Rattle.lists.specs.Lists.{token_item, spelled_at, unused_row, unused_item, type_row, type_item, ends, list_turn, percent_list, list_body, list_decl}
use Rattle.lines.specs.Precedences.{prec_item, prec_turn, prec_list, prec_body, prec_decl}
use Rattle.lines.specs.Avoided.{avoid_named, avoid_item, avoid_turn, avoid_list, avoid_decl}
use Rattle.epps.specs.Epps.{epp_given, epp_text, epp_value, epp_decl}
use Rattle.bodies.specs.Bodies.{body_row, prologue_decl, union_body, union_decl}
use Rattle.declarations.specs.Declarations.{Declared, Out, decl_step, decl_turn, decl_run, decl_all}

-- a kind and a source
pub record Input : Type 0 where
  pub kind : ℕ
  pub src : List ℕ

unfoldable pub row : ℕ → List ℕ → List ℕ → Case Input
row kind src gives = record { input = record { kind = kind; src = src }; gives = gives }

-- tables with some rows of room
abbrev free : List ℕ
free = replicate 18 0

abbrev lent : Declared
lent = record { t1 = free; t2 = free; t3 = free; t4 = free; t5 = free; t6 = free; t10 = free; t15 = free; t16 = free; t17 = free }

-- 0 and the place of `%%`, or the refusal's number and place
unfoldable pub answered : Answer → State → List ℕ
answered Going s = []
answered Done s = 0 ∷ s.at ∷ []
answered (Refused f) s = number_of f ∷ from_of f ∷ []

-- the count of the table of index k, and its rows
unfoldable pub filled : State → ℕ → List ℕ → List ℕ
filled s k t = count s k ∷ take (count s k * width k) t

unfoldable pub numbers : Out → List ℕ
numbers o =
    answered o.answer o.state
    ++ (filled o.state 0 o.tables.t1
    ++ (filled o.state 1 o.tables.t2
    ++ (filled o.state 2 o.tables.t3
    ++ (filled o.state 3 o.tables.t4
    ++ (filled o.state 4 o.tables.t5
    ++ (filled o.state 5 o.tables.t6
    ++ (filled o.state 9 o.tables.t10
    ++ (filled o.state tags o.tables.t15
    ++ (filled o.state token_numbers o.tables.t16
    ++ filled o.state bodies o.tables.t17)))))))))

unfoldable pub table : List (Case Input)
table =
    -- nothing, kind 1
    row 1 [] (10 ∷ 0 ∷ 0 ∷ 0 ∷ 0 ∷ 0 ∷ 0 ∷ 0 ∷ 0 ∷ 0 ∷ 0 ∷ 0 ∷ [])
    -- `%%`, kind 1
    ∷ row 1 (37 ∷ 37 ∷ []) (0 ∷ 0 ∷ 0 ∷ 0 ∷ 0 ∷ 0 ∷ 0 ∷ 0 ∷ 0 ∷ 0 ∷ 0 ∷ 0 ∷ [])
    -- `%token_a%%s:A;`, kind 1
    ∷ row 1 (37 ∷ 116 ∷ 111 ∷ 107 ∷ 101 ∷ 110 ∷ 65 ∷ 37 ∷ 37 ∷ 115 ∷ 58 ∷ 65 ∷ 59 ∷ []) (0 ∷ 7 ∷ 1 ∷ 6 ∷ 7 ∷ 1 ∷ 0 ∷ 0 ∷ 0 ∷ 0 ∷ 0 ∷ 0 ∷ 0 ∷ 0 ∷ 0 ∷ [])
    -- `%left'a'`, kind 1
    ∷ row 1 (37 ∷ 108 ∷ 101 ∷ 102 ∷ 116 ∷ 39 ∷ 97 ∷ 39 ∷ []) (10 ∷ 8 ∷ 0 ∷ 1 ∷ 6 ∷ 7 ∷ 0 ∷ 1 ∷ 0 ∷ 0 ∷ 0 ∷ 0 ∷ 0 ∷ 0 ∷ 0 ∷ 0 ∷ [])
    -- `%avoid_insert'a'`, kind 1
    ∷ row 1 (37 ∷ 97 ∷ 118 ∷ 111 ∷ 105 ∷ 100 ∷ 95 ∷ 105 ∷ 110 ∷ 115 ∷ 101 ∷ 114 ∷ 116 ∷ 39 ∷ 97 ∷ 39 ∷ []) (3 ∷ 16 ∷ 1 ∷ 14 ∷ 15 ∷ 0 ∷ 0 ∷ 1 ∷ 14 ∷ 15 ∷ 0 ∷ 0 ∷ 0 ∷ 0 ∷ 0 ∷ 0 ∷ 0 ∷ [])
    -- `%avoid_insert`, kind 1
    ∷ row 1 (37 ∷ 97 ∷ 118 ∷ 111 ∷ 105 ∷ 100 ∷ 95 ∷ 105 ∷ 110 ∷ 115 ∷ 101 ∷ 114 ∷ 116 ∷ []) (10 ∷ 13 ∷ 0 ∷ 0 ∷ 0 ∷ 0 ∷ 0 ∷ 0 ∷ 0 ∷ 0 ∷ 0 ∷ 0 ∷ [])
    -- `%token\n_a`, kind 1
    ∷ row 1 (37 ∷ 116 ∷ 111 ∷ 107 ∷ 101 ∷ 110 ∷ 10 ∷ 65 ∷ []) (13 ∷ 6 ∷ 0 ∷ 0 ∷ 0 ∷ 0 ∷ 0 ∷ 0 ∷ 0 ∷ 0 ∷ 0 ∷ 0 ∷ [])
    -- `%token//\n_a%%s:A;`, kind 1
    ∷ row 1 (37 ∷ 116 ∷ 111 ∷ 107 ∷ 101 ∷ 110 ∷ 47 ∷ 47 ∷ 10 ∷ 65 ∷ 37 ∷ 37 ∷ 115 ∷ 58 ∷ 65 ∷ 59 ∷ []) (0 ∷ 10 ∷ 1 ∷ 9 ∷ 10 ∷ 1 ∷ 0 ∷ 0 ∷ 0 ∷ 0 ∷ 0 ∷ 0 ∷ 0 ∷ 0 ∷ 0 ∷ [])
    -- `%token//\r\n_a`, kind 1
    ∷ row 1 (37 ∷ 116 ∷ 111 ∷ 107 ∷ 101 ∷ 110 ∷ 47 ∷ 47 ∷ 13 ∷ 10 ∷ 65 ∷ []) (13 ∷ 9 ∷ 0 ∷ 0 ∷ 0 ∷ 0 ∷ 0 ∷ 0 ∷ 0 ∷ 0 ∷ 0 ∷ 0 ∷ [])
    -- `%start a%start b%%a:;`, kind 1
    ∷ row 1 (37 ∷ 115 ∷ 116 ∷ 97 ∷ 114 ∷ 116 ∷ 32 ∷ 97 ∷ 37 ∷ 115 ∷ 116 ∷ 97 ∷ 114 ∷ 116 ∷ 32 ∷ 98 ∷ 37 ∷ 37 ∷ 97 ∷ 58 ∷ 59 ∷ []) (0 ∷ 16 ∷ 0 ∷ 0 ∷ 0 ∷ 0 ∷ 0 ∷ 0 ∷ 1 ∷ 25 ∷ 7 ∷ 8 ∷ 15 ∷ 16 ∷ 0 ∷ 0 ∷ 0 ∷ [])
    -- `%expect18446744073709551616`, kind 1
    ∷ row 1 (37 ∷ 101 ∷ 120 ∷ 112 ∷ 101 ∷ 99 ∷ 116 ∷ 49 ∷ 56 ∷ 52 ∷ 52 ∷ 54 ∷ 55 ∷ 52 ∷ 52 ∷ 48 ∷ 55 ∷ 51 ∷ 55 ∷ 48 ∷ 57 ∷ 53 ∷ 53 ∷ 49 ∷ 54 ∷ 49 ∷ 54 ∷ []) (1 ∷ 7 ∷ 0 ∷ 0 ∷ 0 ∷ 0 ∷ 0 ∷ 0 ∷ 0 ∷ 0 ∷ 0 ∷ 0 ∷ [])
    -- `%left 'a' // x\n%left 'b'\n%%`, kind 1
    ∷ row 1 (37 ∷ 108 ∷ 101 ∷ 102 ∷ 116 ∷ 32 ∷ 39 ∷ 97 ∷ 39 ∷ 32 ∷ 47 ∷ 47 ∷ 32 ∷ 120 ∷ 10 ∷ 37 ∷ 108 ∷ 101 ∷ 102 ∷ 116 ∷ 32 ∷ 39 ∷ 98 ∷ 39 ∷ 10 ∷ 37 ∷ 37 ∷ []) (0 ∷ 25 ∷ 0 ∷ 2 ∷ 7 ∷ 8 ∷ 0 ∷ 1 ∷ 22 ∷ 23 ∷ 1 ∷ 1 ∷ 0 ∷ 0 ∷ 0 ∷ 0 ∷ 0 ∷ 0 ∷ 0 ∷ 0 ∷ [])
    -- `%right 'a'\n%nonassoc 'b'\n%%`, kind 1
    ∷ row 1 (37 ∷ 114 ∷ 105 ∷ 103 ∷ 104 ∷ 116 ∷ 32 ∷ 39 ∷ 97 ∷ 39 ∷ 10 ∷ 37 ∷ 110 ∷ 111 ∷ 110 ∷ 97 ∷ 115 ∷ 115 ∷ 111 ∷ 99 ∷ 32 ∷ 39 ∷ 98 ∷ 39 ∷ 10 ∷ 37 ∷ 37 ∷ []) (0 ∷ 25 ∷ 0 ∷ 2 ∷ 8 ∷ 9 ∷ 0 ∷ 2 ∷ 22 ∷ 23 ∷ 1 ∷ 3 ∷ 0 ∷ 0 ∷ 0 ∷ 0 ∷ 0 ∷ 0 ∷ 0 ∷ 0 ∷ [])
    -- `%left 'a' 'a'\n%left 'b'%%`, kind 1
    ∷ row 1 (37 ∷ 108 ∷ 101 ∷ 102 ∷ 116 ∷ 32 ∷ 39 ∷ 97 ∷ 39 ∷ 32 ∷ 39 ∷ 97 ∷ 39 ∷ 10 ∷ 37 ∷ 108 ∷ 101 ∷ 102 ∷ 116 ∷ 32 ∷ 39 ∷ 98 ∷ 39 ∷ 37 ∷ 37 ∷ []) (3 ∷ 23 ∷ 0 ∷ 2 ∷ 7 ∷ 8 ∷ 0 ∷ 1 ∷ 21 ∷ 22 ∷ 1 ∷ 1 ∷ 0 ∷ 0 ∷ 0 ∷ 0 ∷ 1 ∷ 20 ∷ 7 ∷ 8 ∷ 11 ∷ 12 ∷ 0 ∷ 0 ∷ 0 ∷ [])
    -- `%actiontype X\n%%`, kind 1
    ∷ row 1 (37 ∷ 97 ∷ 99 ∷ 116 ∷ 105 ∷ 111 ∷ 110 ∷ 116 ∷ 121 ∷ 112 ∷ 101 ∷ 32 ∷ 88 ∷ 10 ∷ 37 ∷ 37 ∷ []) (0 ∷ 14 ∷ 0 ∷ 0 ∷ 0 ∷ 0 ∷ 0 ∷ 0 ∷ 0 ∷ 0 ∷ 0 ∷ 0 ∷ [])
    -- `%actiontype X\n%%`, kind 2
    ∷ row 2 (37 ∷ 97 ∷ 99 ∷ 116 ∷ 105 ∷ 111 ∷ 110 ∷ 116 ∷ 121 ∷ 112 ∷ 101 ∷ 32 ∷ 88 ∷ 10 ∷ 37 ∷ 37 ∷ []) (12 ∷ 0 ∷ 0 ∷ 0 ∷ 0 ∷ 0 ∷ 0 ∷ 0 ∷ 0 ∷ 0 ∷ 0 ∷ 0 ∷ [])
    -- `%implicit_tokens A\n%%`, kind 3
    ∷ row 3 (37 ∷ 105 ∷ 109 ∷ 112 ∷ 108 ∷ 105 ∷ 99 ∷ 105 ∷ 116 ∷ 95 ∷ 116 ∷ 111 ∷ 107 ∷ 101 ∷ 110 ∷ 115 ∷ 32 ∷ 65 ∷ 10 ∷ 37 ∷ 37 ∷ []) (0 ∷ 19 ∷ 1 ∷ 17 ∷ 18 ∷ 0 ∷ 0 ∷ 0 ∷ 1 ∷ 17 ∷ 18 ∷ 0 ∷ 0 ∷ 0 ∷ 0 ∷ 0 ∷ 0 ∷ [])
    -- `%implicit_tokens A\n%%`, kind 1
    ∷ row 1 (37 ∷ 105 ∷ 109 ∷ 112 ∷ 108 ∷ 105 ∷ 99 ∷ 105 ∷ 116 ∷ 95 ∷ 116 ∷ 111 ∷ 107 ∷ 101 ∷ 110 ∷ 115 ∷ 32 ∷ 65 ∷ 10 ∷ 37 ∷ 37 ∷ []) (12 ∷ 0 ∷ 0 ∷ 0 ∷ 0 ∷ 0 ∷ 0 ∷ 0 ∷ 0 ∷ 0 ∷ 0 ∷ 0 ∷ [])
    -- `%expect-unused a 'b'%%`, kind 1
    ∷ row 1 (37 ∷ 101 ∷ 120 ∷ 112 ∷ 101 ∷ 99 ∷ 116 ∷ 45 ∷ 117 ∷ 110 ∷ 117 ∷ 115 ∷ 101 ∷ 100 ∷ 32 ∷ 97 ∷ 32 ∷ 39 ∷ 98 ∷ 39 ∷ 37 ∷ 37 ∷ []) (0 ∷ 20 ∷ 0 ∷ 0 ∷ 0 ∷ 0 ∷ 0 ∷ 2 ∷ 1 ∷ 15 ∷ 16 ∷ 2 ∷ 18 ∷ 19 ∷ 0 ∷ 0 ∷ 0 ∷ 0 ∷ [])
    -- `%expect-unused 9`, kind 1
    ∷ row 1 (37 ∷ 101 ∷ 120 ∷ 112 ∷ 101 ∷ 99 ∷ 116 ∷ 45 ∷ 117 ∷ 110 ∷ 117 ∷ 115 ∷ 101 ∷ 100 ∷ 32 ∷ 57 ∷ []) (15 ∷ 15 ∷ 0 ∷ 0 ∷ 0 ∷ 0 ∷ 0 ∷ 0 ∷ 0 ∷ 0 ∷ 0 ∷ 0 ∷ [])
    -- `%epp a 'x'%epp 'a' 'y'%%`, kind 1
    ∷ row 1 (37 ∷ 101 ∷ 112 ∷ 112 ∷ 32 ∷ 97 ∷ 32 ∷ 39 ∷ 120 ∷ 39 ∷ 37 ∷ 101 ∷ 112 ∷ 112 ∷ 32 ∷ 39 ∷ 97 ∷ 39 ∷ 32 ∷ 39 ∷ 121 ∷ 39 ∷ 37 ∷ 37 ∷ []) (0 ∷ 22 ∷ 0 ∷ 0 ∷ 0 ∷ 0 ∷ 1 ∷ 5 ∷ 6 ∷ 5 ∷ 6 ∷ 7 ∷ 10 ∷ 0 ∷ 1 ∷ 27 ∷ 5 ∷ 6 ∷ 15 ∷ 18 ∷ 0 ∷ 0 ∷ 0 ∷ [])
    -- `%avoid_insert A\n%token A%%`, kind 1
    ∷ row 1 (37 ∷ 97 ∷ 118 ∷ 111 ∷ 105 ∷ 100 ∷ 95 ∷ 105 ∷ 110 ∷ 115 ∷ 101 ∷ 114 ∷ 116 ∷ 32 ∷ 65 ∷ 10 ∷ 37 ∷ 116 ∷ 111 ∷ 107 ∷ 101 ∷ 110 ∷ 32 ∷ 65 ∷ 37 ∷ 37 ∷ []) (0 ∷ 24 ∷ 1 ∷ 14 ∷ 15 ∷ 1 ∷ 0 ∷ 1 ∷ 14 ∷ 15 ∷ 0 ∷ 0 ∷ 0 ∷ 0 ∷ 0 ∷ 0 ∷ 0 ∷ [])
    -- `%foo`, kind 1
    ∷ row 1 (37 ∷ 102 ∷ 111 ∷ 111 ∷ []) (12 ∷ 0 ∷ 0 ∷ 0 ∷ 0 ∷ 0 ∷ 0 ∷ 0 ∷ 0 ∷ 0 ∷ 0 ∷ 0 ∷ [])
    -- `%token A%expect-unused A%%s:A;`, kind 1
    ∷ row 1 (37 ∷ 116 ∷ 111 ∷ 107 ∷ 101 ∷ 110 ∷ 32 ∷ 65 ∷ 37 ∷ 101 ∷ 120 ∷ 112 ∷ 101 ∷ 99 ∷ 116 ∷ 45 ∷ 117 ∷ 110 ∷ 117 ∷ 115 ∷ 101 ∷ 100 ∷ 32 ∷ 65 ∷ 37 ∷ 37 ∷ 115 ∷ 58 ∷ 65 ∷ 59 ∷ []) (0 ∷ 24 ∷ 1 ∷ 7 ∷ 8 ∷ 1 ∷ 0 ∷ 0 ∷ 0 ∷ 0 ∷ 1 ∷ 1 ∷ 23 ∷ 24 ∷ 0 ∷ 0 ∷ 0 ∷ 0 ∷ [])
    -- `%token<t>A 300'b'%%s:A'b';`, kind 4
    ∷ row 4 (37 ∷ 116 ∷ 111 ∷ 107 ∷ 101 ∷ 110 ∷ 60 ∷ 116 ∷ 62 ∷ 65 ∷ 32 ∷ 51 ∷ 48 ∷ 48 ∷ 39 ∷ 98 ∷ 39 ∷ 37 ∷ 37 ∷ 115 ∷ 58 ∷ 65 ∷ 39 ∷ 98 ∷ 39 ∷ 59 ∷ []) (0 ∷ 17 ∷ 2 ∷ 9 ∷ 10 ∷ 1 ∷ 15 ∷ 16 ∷ 1 ∷ 0 ∷ 0 ∷ 0 ∷ 0 ∷ 0 ∷ 0 ∷ 2 ∷ 9 ∷ 10 ∷ 7 ∷ 8 ∷ 15 ∷ 16 ∷ 7 ∷ 8 ∷ 1 ∷ 9 ∷ 10 ∷ 300 ∷ 0 ∷ [])
    -- `%left<t>'a'\n%%s:'a';`, kind 4
    ∷ row 4 (37 ∷ 108 ∷ 101 ∷ 102 ∷ 116 ∷ 60 ∷ 116 ∷ 62 ∷ 39 ∷ 97 ∷ 39 ∷ 10 ∷ 37 ∷ 37 ∷ 115 ∷ 58 ∷ 39 ∷ 97 ∷ 39 ∷ 59 ∷ []) (0 ∷ 12 ∷ 0 ∷ 1 ∷ 9 ∷ 10 ∷ 0 ∷ 1 ∷ 0 ∷ 0 ∷ 0 ∷ 0 ∷ 0 ∷ 1 ∷ 9 ∷ 10 ∷ 6 ∷ 7 ∷ 0 ∷ 0 ∷ [])
    -- `%type<t>s 't'%%s:'t';`, kind 4
    ∷ row 4 (37 ∷ 116 ∷ 121 ∷ 112 ∷ 101 ∷ 60 ∷ 116 ∷ 62 ∷ 115 ∷ 32 ∷ 39 ∷ 116 ∷ 39 ∷ 37 ∷ 37 ∷ 115 ∷ 58 ∷ 39 ∷ 116 ∷ 39 ∷ 59 ∷ []) (0 ∷ 13 ∷ 0 ∷ 0 ∷ 0 ∷ 0 ∷ 0 ∷ 0 ∷ 0 ∷ 2 ∷ 8 ∷ 9 ∷ 6 ∷ 7 ∷ 11 ∷ 12 ∷ 6 ∷ 7 ∷ 0 ∷ 0 ∷ [])
    -- `%{%}%%s:;`, kind 4
    ∷ row 4 (37 ∷ 123 ∷ 37 ∷ 125 ∷ 37 ∷ 37 ∷ 115 ∷ 58 ∷ 59 ∷ []) (0 ∷ 4 ∷ 0 ∷ 0 ∷ 0 ∷ 0 ∷ 0 ∷ 0 ∷ 0 ∷ 0 ∷ 0 ∷ 1 ∷ 1 ∷ 2 ∷ 2 ∷ [])
    -- `%union{{}}%%s:;`, kind 4
    ∷ row 4 (37 ∷ 117 ∷ 110 ∷ 105 ∷ 111 ∷ 110 ∷ 123 ∷ 123 ∷ 125 ∷ 125 ∷ 37 ∷ 37 ∷ 115 ∷ 58 ∷ 59 ∷ []) (0 ∷ 10 ∷ 0 ∷ 0 ∷ 0 ∷ 0 ∷ 0 ∷ 0 ∷ 0 ∷ 0 ∷ 0 ∷ 1 ∷ 2 ∷ 7 ∷ 9 ∷ [])
    -- `%token<t`, kind 4
    ∷ row 4 (37 ∷ 116 ∷ 111 ∷ 107 ∷ 101 ∷ 110 ∷ 60 ∷ 116 ∷ []) (50 ∷ 6 ∷ 0 ∷ 0 ∷ 0 ∷ 0 ∷ 0 ∷ 0 ∷ 0 ∷ 0 ∷ 0 ∷ 0 ∷ [])
    -- `%token <t\r>A`, kind 4
    ∷ row 4 (37 ∷ 116 ∷ 111 ∷ 107 ∷ 101 ∷ 110 ∷ 32 ∷ 60 ∷ 116 ∷ 13 ∷ 62 ∷ 65 ∷ []) (50 ∷ 7 ∷ 0 ∷ 0 ∷ 0 ∷ 0 ∷ 0 ∷ 0 ∷ 0 ∷ 0 ∷ 0 ∷ 0 ∷ [])
    -- `%type`, kind 4
    ∷ row 4 (37 ∷ 116 ∷ 121 ∷ 112 ∷ 101 ∷ []) (50 ∷ 5 ∷ 0 ∷ 0 ∷ 0 ∷ 0 ∷ 0 ∷ 0 ∷ 0 ∷ 0 ∷ 0 ∷ 0 ∷ [])
    -- `%type `, kind 4
    ∷ row 4 (37 ∷ 116 ∷ 121 ∷ 112 ∷ 101 ∷ 32 ∷ []) (50 ∷ 6 ∷ 0 ∷ 0 ∷ 0 ∷ 0 ∷ 0 ∷ 0 ∷ 0 ∷ 0 ∷ 0 ∷ 0 ∷ [])
    -- `%type s`, kind 4
    ∷ row 4 (37 ∷ 116 ∷ 121 ∷ 112 ∷ 101 ∷ 32 ∷ 115 ∷ []) (50 ∷ 6 ∷ 0 ∷ 0 ∷ 0 ∷ 0 ∷ 0 ∷ 0 ∷ 0 ∷ 0 ∷ 0 ∷ 0 ∷ [])
    -- `%type<t`, kind 4
    ∷ row 4 (37 ∷ 116 ∷ 121 ∷ 112 ∷ 101 ∷ 60 ∷ 116 ∷ []) (50 ∷ 5 ∷ 0 ∷ 0 ∷ 0 ∷ 0 ∷ 0 ∷ 0 ∷ 0 ∷ 0 ∷ 0 ∷ 0 ∷ [])
    -- `%{`, kind 4
    ∷ row 4 (37 ∷ 123 ∷ []) (51 ∷ 0 ∷ 0 ∷ 0 ∷ 0 ∷ 0 ∷ 0 ∷ 0 ∷ 0 ∷ 0 ∷ 0 ∷ 0 ∷ [])
    -- `%{%`, kind 4
    ∷ row 4 (37 ∷ 123 ∷ 37 ∷ []) (51 ∷ 0 ∷ 0 ∷ 0 ∷ 0 ∷ 0 ∷ 0 ∷ 0 ∷ 0 ∷ 0 ∷ 0 ∷ 0 ∷ [])
    -- `%union`, kind 4
    ∷ row 4 (37 ∷ 117 ∷ 110 ∷ 105 ∷ 111 ∷ 110 ∷ []) (52 ∷ 0 ∷ 0 ∷ 0 ∷ 0 ∷ 0 ∷ 0 ∷ 0 ∷ 0 ∷ 0 ∷ 0 ∷ 0 ∷ [])
    -- `%union{`, kind 4
    ∷ row 4 (37 ∷ 117 ∷ 110 ∷ 105 ∷ 111 ∷ 110 ∷ 123 ∷ []) (52 ∷ 0 ∷ 0 ∷ 0 ∷ 0 ∷ 0 ∷ 0 ∷ 0 ∷ 0 ∷ 0 ∷ 0 ∷ 0 ∷ [])
    -- `%union;`, kind 4
    ∷ row 4 (37 ∷ 117 ∷ 110 ∷ 105 ∷ 111 ∷ 110 ∷ 59 ∷ []) (52 ∷ 0 ∷ 0 ∷ 0 ∷ 0 ∷ 0 ∷ 0 ∷ 0 ∷ 0 ∷ 0 ∷ 0 ∷ 0 ∷ [])
    -- `%union x{}`, kind 4
    ∷ row 4 (37 ∷ 117 ∷ 110 ∷ 105 ∷ 111 ∷ 110 ∷ 32 ∷ 120 ∷ 123 ∷ 125 ∷ []) (52 ∷ 0 ∷ 0 ∷ 0 ∷ 0 ∷ 0 ∷ 0 ∷ 0 ∷ 0 ∷ 0 ∷ 0 ∷ 0 ∷ [])
    -- `%union\n{}`, kind 4
    ∷ row 4 (37 ∷ 117 ∷ 110 ∷ 105 ∷ 111 ∷ 110 ∷ 10 ∷ 123 ∷ 125 ∷ []) (13 ∷ 6 ∷ 0 ∷ 0 ∷ 0 ∷ 0 ∷ 0 ∷ 0 ∷ 0 ∷ 0 ∷ 0 ∷ 0 ∷ [])
    -- `%type\n<t>s`, kind 4
    ∷ row 4 (37 ∷ 116 ∷ 121 ∷ 112 ∷ 101 ∷ 10 ∷ 60 ∷ 116 ∷ 62 ∷ 115 ∷ []) (13 ∷ 5 ∷ 0 ∷ 0 ∷ 0 ∷ 0 ∷ 0 ∷ 0 ∷ 0 ∷ 0 ∷ 0 ∷ 0 ∷ [])
    -- `%token\n<t>A`, kind 4
    ∷ row 4 (37 ∷ 116 ∷ 111 ∷ 107 ∷ 101 ∷ 110 ∷ 10 ∷ 60 ∷ 116 ∷ 62 ∷ 65 ∷ []) (13 ∷ 6 ∷ 0 ∷ 0 ∷ 0 ∷ 0 ∷ 0 ∷ 0 ∷ 0 ∷ 0 ∷ 0 ∷ 0 ∷ [])
    -- `%token A 4294967296`, kind 4
    ∷ row 4 (37 ∷ 116 ∷ 111 ∷ 107 ∷ 101 ∷ 110 ∷ 32 ∷ 65 ∷ 32 ∷ 52 ∷ 50 ∷ 57 ∷ 52 ∷ 57 ∷ 54 ∷ 55 ∷ 50 ∷ 57 ∷ 54 ∷ []) (1 ∷ 9 ∷ 1 ∷ 7 ∷ 8 ∷ 1 ∷ 0 ∷ 0 ∷ 0 ∷ 0 ∷ 0 ∷ 0 ∷ 0 ∷ 0 ∷ 0 ∷ [])
    -- `%token A 4294967295`, kind 4
    ∷ row 4 (37 ∷ 116 ∷ 111 ∷ 107 ∷ 101 ∷ 110 ∷ 32 ∷ 65 ∷ 32 ∷ 52 ∷ 50 ∷ 57 ∷ 52 ∷ 57 ∷ 54 ∷ 55 ∷ 50 ∷ 57 ∷ 53 ∷ []) (10 ∷ 19 ∷ 1 ∷ 7 ∷ 8 ∷ 1 ∷ 0 ∷ 0 ∷ 0 ∷ 0 ∷ 0 ∷ 0 ∷ 0 ∷ 1 ∷ 7 ∷ 8 ∷ 4294967295 ∷ 0 ∷ [])
    -- `%token A 1 2`, kind 4
    ∷ row 4 (37 ∷ 116 ∷ 111 ∷ 107 ∷ 101 ∷ 110 ∷ 32 ∷ 65 ∷ 32 ∷ 49 ∷ 32 ∷ 50 ∷ []) (3 ∷ 11 ∷ 1 ∷ 7 ∷ 8 ∷ 1 ∷ 0 ∷ 0 ∷ 0 ∷ 0 ∷ 0 ∷ 0 ∷ 0 ∷ 1 ∷ 7 ∷ 8 ∷ 1 ∷ 0 ∷ [])
    -- `%token 1`, kind 4
    ∷ row 4 (37 ∷ 116 ∷ 111 ∷ 107 ∷ 101 ∷ 110 ∷ 32 ∷ 49 ∷ []) (3 ∷ 7 ∷ 0 ∷ 0 ∷ 0 ∷ 0 ∷ 0 ∷ 0 ∷ 0 ∷ 0 ∷ 0 ∷ 0 ∷ [])
    -- `%token A-1`, kind 4
    ∷ row 4 (37 ∷ 116 ∷ 111 ∷ 107 ∷ 101 ∷ 110 ∷ 32 ∷ 65 ∷ 45 ∷ 49 ∷ []) (3 ∷ 8 ∷ 1 ∷ 7 ∷ 8 ∷ 1 ∷ 0 ∷ 0 ∷ 0 ∷ 0 ∷ 0 ∷ 0 ∷ 0 ∷ 0 ∷ 0 ∷ [])
    -- `%left<t>\n'a'`, kind 4
    ∷ row 4 (37 ∷ 108 ∷ 101 ∷ 102 ∷ 116 ∷ 60 ∷ 116 ∷ 62 ∷ 10 ∷ 39 ∷ 97 ∷ 39 ∷ []) (12 ∷ 9 ∷ 0 ∷ 0 ∷ 0 ∷ 0 ∷ 0 ∷ 0 ∷ 0 ∷ 0 ∷ 0 ∷ 0 ∷ [])
    -- `%left'a'\n9`, kind 4
    ∷ row 4 (37 ∷ 108 ∷ 101 ∷ 102 ∷ 116 ∷ 39 ∷ 97 ∷ 39 ∷ 10 ∷ 57 ∷ []) (12 ∷ 9 ∷ 0 ∷ 1 ∷ 6 ∷ 7 ∷ 0 ∷ 1 ∷ 0 ∷ 0 ∷ 0 ∷ 0 ∷ 0 ∷ 0 ∷ 0 ∷ 0 ∷ [])
    -- `%type<t>s 1`, kind 4
    ∷ row 4 (37 ∷ 116 ∷ 121 ∷ 112 ∷ 101 ∷ 60 ∷ 116 ∷ 62 ∷ 115 ∷ 32 ∷ 49 ∷ []) (15 ∷ 10 ∷ 0 ∷ 0 ∷ 0 ∷ 0 ∷ 0 ∷ 0 ∷ 0 ∷ 1 ∷ 8 ∷ 9 ∷ 6 ∷ 7 ∷ 0 ∷ 0 ∷ [])
    -- `%type<t>s<u>t`, kind 4
    ∷ row 4 (37 ∷ 116 ∷ 121 ∷ 112 ∷ 101 ∷ 60 ∷ 116 ∷ 62 ∷ 115 ∷ 60 ∷ 117 ∷ 62 ∷ 116 ∷ []) (15 ∷ 9 ∷ 0 ∷ 0 ∷ 0 ∷ 0 ∷ 0 ∷ 0 ∷ 0 ∷ 1 ∷ 8 ∷ 9 ∷ 6 ∷ 7 ∷ 0 ∷ 0 ∷ [])
    -- `%token<t>A<u>B`, kind 4
    ∷ row 4 (37 ∷ 116 ∷ 111 ∷ 107 ∷ 101 ∷ 110 ∷ 60 ∷ 116 ∷ 62 ∷ 65 ∷ 60 ∷ 117 ∷ 62 ∷ 66 ∷ []) (3 ∷ 10 ∷ 1 ∷ 9 ∷ 10 ∷ 1 ∷ 0 ∷ 0 ∷ 0 ∷ 0 ∷ 0 ∷ 0 ∷ 1 ∷ 9 ∷ 10 ∷ 7 ∷ 8 ∷ 0 ∷ 0 ∷ [])
    -- `/*\n/*/%%s:;`, kind 4
    ∷ row 4 (47 ∷ 42 ∷ 10 ∷ 47 ∷ 42 ∷ 47 ∷ 37 ∷ 37 ∷ 115 ∷ 58 ∷ 59 ∷ []) (0 ∷ 6 ∷ 0 ∷ 0 ∷ 0 ∷ 0 ∷ 0 ∷ 0 ∷ 0 ∷ 0 ∷ 0 ∷ 0 ∷ [])
    -- `/*\n/*/%%s:;`, kind 1
    ∷ row 1 (47 ∷ 42 ∷ 10 ∷ 47 ∷ 42 ∷ 47 ∷ 37 ∷ 37 ∷ 115 ∷ 58 ∷ 59 ∷ []) (12 ∷ 4 ∷ 0 ∷ 0 ∷ 0 ∷ 0 ∷ 0 ∷ 0 ∷ 0 ∷ 0 ∷ 0 ∷ 0 ∷ [])
    -- `%union`, kind 1
    ∷ row 1 (37 ∷ 117 ∷ 110 ∷ 105 ∷ 111 ∷ 110 ∷ []) (12 ∷ 0 ∷ 0 ∷ 0 ∷ 0 ∷ 0 ∷ 0 ∷ 0 ∷ 0 ∷ 0 ∷ 0 ∷ 0 ∷ [])
    -- `%type`, kind 1
    ∷ row 1 (37 ∷ 116 ∷ 121 ∷ 112 ∷ 101 ∷ []) (12 ∷ 0 ∷ 0 ∷ 0 ∷ 0 ∷ 0 ∷ 0 ∷ 0 ∷ 0 ∷ 0 ∷ 0 ∷ 0 ∷ [])
    -- `%{`, kind 1
    ∷ row 1 (37 ∷ 123 ∷ []) (12 ∷ 0 ∷ 0 ∷ 0 ∷ 0 ∷ 0 ∷ 0 ∷ 0 ∷ 0 ∷ 0 ∷ 0 ∷ 0 ∷ [])
    -- `%union`, kind 2
    ∷ row 2 (37 ∷ 117 ∷ 110 ∷ 105 ∷ 111 ∷ 110 ∷ []) (12 ∷ 0 ∷ 0 ∷ 0 ∷ 0 ∷ 0 ∷ 0 ∷ 0 ∷ 0 ∷ 0 ∷ 0 ∷ 0 ∷ [])
    -- `%type`, kind 2
    ∷ row 2 (37 ∷ 116 ∷ 121 ∷ 112 ∷ 101 ∷ []) (12 ∷ 0 ∷ 0 ∷ 0 ∷ 0 ∷ 0 ∷ 0 ∷ 0 ∷ 0 ∷ 0 ∷ 0 ∷ 0 ∷ [])
    -- `%{`, kind 2
    ∷ row 2 (37 ∷ 123 ∷ []) (12 ∷ 0 ∷ 0 ∷ 0 ∷ 0 ∷ 0 ∷ 0 ∷ 0 ∷ 0 ∷ 0 ∷ 0 ∷ 0 ∷ [])
    -- `%union`, kind 3
    ∷ row 3 (37 ∷ 117 ∷ 110 ∷ 105 ∷ 111 ∷ 110 ∷ []) (12 ∷ 0 ∷ 0 ∷ 0 ∷ 0 ∷ 0 ∷ 0 ∷ 0 ∷ 0 ∷ 0 ∷ 0 ∷ 0 ∷ [])
    -- `%type`, kind 3
    ∷ row 3 (37 ∷ 116 ∷ 121 ∷ 112 ∷ 101 ∷ []) (12 ∷ 0 ∷ 0 ∷ 0 ∷ 0 ∷ 0 ∷ 0 ∷ 0 ∷ 0 ∷ 0 ∷ 0 ∷ 0 ∷ [])
    -- `%{`, kind 3
    ∷ row 3 (37 ∷ 123 ∷ []) (12 ∷ 0 ∷ 0 ∷ 0 ∷ 0 ∷ 0 ∷ 0 ∷ 0 ∷ 0 ∷ 0 ∷ 0 ∷ 0 ∷ [])
    ∷ []

pub table_holds : all (λ x. numbers (decl_all x.src (fresh x.kind) lent)) table ≡ true
unfolding all same row table answered filled numbers decl_all decl_run decl_turn decl_step seen_at first_of starts_at begins turns gap_at gap_of spacing spacing_at is_blank is_eol lines_here past_gap push_row list_repeat enter_step once_step add_row room same_part has_name first_row find_name enter_token next_level name_at named word_at token_at bare quoted_at closed is_quote is_at in_class is_letter is_digit run_end run_end_at int_at counted decimal decimal_at string_at string_from string line_end_at start_decl start_named expect_decl expect_given actiontype_decl actiontype_named list_decl list_body percent_list list_turn ends token_item spelled_at unused_item unused_row type_item type_row lead_tag tag_at tag_closed tag_row number_behind behind_word braced_from braced marked_from marked prologue_decl union_decl union_body body_row prec_decl prec_body prec_list prec_turn prec_item avoid_decl avoid_list avoid_turn avoid_item avoid_named epp_decl epp_value epp_text epp_given
table_holds = refl
