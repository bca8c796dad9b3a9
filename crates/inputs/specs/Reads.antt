-- Small inputs of the whole read, under one statement; document 01's are among them, and the crate gives the same numbers, places, counts and rows. Those of kind 4 are request Nine's.
use Rattle.std.specs.Prelude.{ℕ, ◌*◌, ◌≡◌, refl, true, List, [], ◌∷◌, ◌++◌, take, replicate, get_or}
use Rattle.scan.specs.Scan.{is_at, begins, starts_at, is_letter, is_digit, is_eol, in_class, run_end, run_end_at}
use Rattle.scan.specs.Lines.{lines_here}
use Rattle.scan.specs.Loop.{turns}
use Rattle.scan.specs.Table.{Case, same, all}
use Rattle.utf8.specs.White.{is_white}
use Rattle.utf8.specs.Utf8.{lead_of, follow, follow_at, begun, decode, decode_at}
use Rattle.whole.specs.Whole.{check, check_at}
use Rattle.trim.specs.Trim.{passed, passed_at, kept, moved, trim_turn, trimmed}
use Rattle.spacing.specs.Spacing.{is_blank, spacing, spacing_at}
use Rattle.words.specs.Words.{word_at, named, name_at, is_quote, closed, quoted_at, bare, token_at}
use Rattle.words.specs.Numbers.{decimal, decimal_at, counted, int_at}
use Rattle.words.specs.Strings.{string, string_from, string_at}
use Rattle.words.specs.Tags.{tag_closed, tag_at}
use Rattle.texts.specs.Line.{line_end_at}
use Rattle.texts.specs.Colon.{single, single_from, colon_text, colon_text_at}
use Rattle.texts.specs.Action.{braced, braced_from, acted, action_at}
use Rattle.texts.specs.Mark.{marked, marked_from}
use Rattle.tables.specs.Layout.{tags, token_numbers, bodies, width}
use Rattle.tables.specs.Table.{room, add_row, same_part, has_name, first_row, find_name, enter_token}
use Rattle.keywords.specs.Keywords.{first_of, seen_at}
use Rattle.grammar.specs.Refusals.{of_number, repeat_of}
use Rattle.grammar.specs.Numbers.{singles_numbers}
use Rattle.grammar.specs.State.{next_level, gap_of, gap_at, push_row, list_repeat, enter_step, once_step, past_gap}
use Rattle.index.specs.Index.{halved, is_power, size_test}
use Rattle.symbols.specs.Symbols.{named_row, row_for, filled_rows}
use Rattle.grammar.specs.Sound.{AllTables, Indexes, cells_of, set_tab}
use Rattle.productions.specs.Cells.{push_production}
use Rattle.settings.specs.Settings.{start_named, start_decl, expect_given, expect_decl, actiontype_named, actiontype_decl, param_typed, param_decl, generics_decl}
use Rattle.marks.specs.Marks.{lead_tag, tag_row, number_behind, behind_word}
use Rattle.lists.specs.Lists.{token_item, spelled_at, unused_row, unused_item, type_row, type_item, ends, list_turn, percent_list, list_body, list_decl}
use Rattle.lines.specs.Precedences.{prec_item, prec_turn, prec_list, prec_body, prec_decl}
use Rattle.lines.specs.Avoided.{avoid_named, avoid_item, avoid_turn, avoid_list, avoid_decl}
use Rattle.epps.specs.Epps.{epp_given, epp_text, epp_value, epp_decl}
use Rattle.bodies.specs.Bodies.{body_row, prologue_decl, union_body, union_decl}
use Rattle.declarations.specs.Declarations.{decl_step, decl_turn, decl_run, decl_all}
use Rattle.items.specs.Items.{first_mark, sort_at, token_symbol, quoted_rows, quoted_item, prec_name, prec_item as item-precItem, may_end, after_action, action_item, may_follow, empty_item, symbol_kind, bare_item, end_production, bar_item, end_item, item_step, item_turn, item_list}
use Rattle.rules.specs.Rules.{pass_mark, first_start, colon_type, arrow_type, rule_type, enter_rule, named_head, rule_head, rule_body, rule_step, next_rule, rules_turn, rules_run, rules_all, programs_from}
use Rattle.sections.specs.Sections.{sizes_fit, admitted, rest_all, sections_all, attempted}
use Rattle.reader.specs.Read.{ReadResult, verdict_numbers, ended_at, read_names, read_all}

-- a kind and a source
pub record Input : Type 0 where
  pub kind : ℕ
  pub src : List ℕ

unfoldable pub row : ℕ → List ℕ → List ℕ → Case Input
row kind src gives = record { input = record { kind = kind; src = src }; gives = gives }

-- tables with some rows of room, and something in them
abbrev free : List ℕ
free = replicate 39 7

abbrev lent : AllTables
lent = record { t1 = free; t2 = free; t3 = free; t4 = free; t5 = free; t6 = free; t7 = free; t8 = free; t9 = free; t10 = free; t15 = free; t16 = free; t17 = free }

-- and indexes that are large enough for them
abbrev slots : Indexes
slots = record { tokens = replicate 32 7; rules = replicate 16 7 }

-- the count of a table of kind 4, and the rows of the table of index k
abbrev posix_count : ReadResult → ℕ → ℕ
posix_count o k = get_or o.posix.n k 0

unfoldable pub filled : ReadResult → ℕ → ℕ → List ℕ
filled o n k = take (n * width k) (cells_of o.tables k)

-- the rows of the ten tables
unfoldable pub rows_of_ten : ReadResult → List ℕ → List ℕ
rows_of_ten o [] = []
rows_of_ten o (k ∷ ks) = filled o (get_or o.counts.n k 0) k ++ rows_of_ten o ks

-- number and place, the ten counts, the rows of the ten tables, the singles; then the counts of tables 15 to 17 and their rows
unfoldable pub numbers : ReadResult → List ℕ
numbers o =
    take 3 (verdict_numbers o.answer) ++ (o.counts.n
    ++ (rows_of_ten o (0 ∷ 1 ∷ 2 ∷ 3 ∷ 4 ∷ 5 ∷ 6 ∷ 7 ∷ 8 ∷ 9 ∷ [])
    ++ (singles_numbers o.singles
    ++ (o.posix.n
    ++ (filled o (posix_count o 0) tags ++ (filled o (posix_count o 1) token_numbers ++ filled o (posix_count o 2) bodies))))))

unfoldable pub table : List (Case Input)
table =
    -- nothing, kind 1
    row 1 ([]) (10 ∷ 0 ∷ 0 ∷ 0 ∷ 0 ∷ 0 ∷ 0 ∷ 0 ∷ 0 ∷ 0 ∷ 0 ∷ 0 ∷ 0 ∷ 0 ∷ 0 ∷ 0 ∷ 0 ∷ 0 ∷ 0 ∷ 0 ∷ 0 ∷ 0 ∷ 0 ∷ 0 ∷ 0 ∷ 0 ∷ 0 ∷ 0 ∷ 0 ∷ 0 ∷ 0 ∷ 0 ∷ 0 ∷ 0 ∷ 0 ∷ 0 ∷ 0 ∷ 0 ∷ [])
    -- `%%`, kind 1
    ∷ row 1 (37 ∷ 37 ∷ []) (0 ∷ 2 ∷ 2 ∷ 0 ∷ 0 ∷ 0 ∷ 0 ∷ 0 ∷ 0 ∷ 0 ∷ 0 ∷ 0 ∷ 0 ∷ 0 ∷ 0 ∷ 0 ∷ 0 ∷ 0 ∷ 0 ∷ 0 ∷ 0 ∷ 0 ∷ 0 ∷ 0 ∷ 0 ∷ 0 ∷ 0 ∷ 0 ∷ 0 ∷ 0 ∷ 0 ∷ 0 ∷ 0 ∷ 0 ∷ 0 ∷ 0 ∷ 0 ∷ 0 ∷ [])
    -- `%%s:;`, kind 1
    ∷ row 1 (37 ∷ 37 ∷ 115 ∷ 58 ∷ 59 ∷ []) (0 ∷ 5 ∷ 5 ∷ 0 ∷ 0 ∷ 0 ∷ 0 ∷ 0 ∷ 0 ∷ 1 ∷ 1 ∷ 0 ∷ 0 ∷ 2 ∷ 3 ∷ 0 ∷ 0 ∷ 0 ∷ 0 ∷ 4 ∷ 4 ∷ 0 ∷ 0 ∷ 0 ∷ 0 ∷ 0 ∷ 0 ∷ 0 ∷ 0 ∷ 0 ∷ 0 ∷ 1 ∷ 2 ∷ 3 ∷ 0 ∷ 0 ∷ 0 ∷ 0 ∷ 0 ∷ 0 ∷ 0 ∷ 0 ∷ 0 ∷ 0 ∷ 0 ∷ 0 ∷ 0 ∷ 0 ∷ 0 ∷ 0 ∷ 0 ∷ 0 ∷ 0 ∷ 0 ∷ 0 ∷ 0 ∷ [])
    -- `%%s:;`, kind 2
    ∷ row 2 (37 ∷ 37 ∷ 115 ∷ 58 ∷ 59 ∷ []) (8 ∷ 3 ∷ 3 ∷ 0 ∷ 0 ∷ 0 ∷ 0 ∷ 0 ∷ 0 ∷ 0 ∷ 0 ∷ 0 ∷ 0 ∷ 0 ∷ 0 ∷ 0 ∷ 0 ∷ 0 ∷ 0 ∷ 0 ∷ 0 ∷ 0 ∷ 0 ∷ 0 ∷ 0 ∷ 0 ∷ 0 ∷ 0 ∷ 0 ∷ 0 ∷ 0 ∷ 0 ∷ 0 ∷ 0 ∷ 0 ∷ 0 ∷ 0 ∷ 0 ∷ [])
    -- `%token_a%%s:A;`, kind 1
    ∷ row 1 (37 ∷ 116 ∷ 111 ∷ 107 ∷ 101 ∷ 110 ∷ 65 ∷ 37 ∷ 37 ∷ 115 ∷ 58 ∷ 65 ∷ 59 ∷ []) (0 ∷ 13 ∷ 13 ∷ 1 ∷ 0 ∷ 0 ∷ 0 ∷ 0 ∷ 0 ∷ 1 ∷ 1 ∷ 1 ∷ 0 ∷ 6 ∷ 7 ∷ 1 ∷ 9 ∷ 10 ∷ 0 ∷ 0 ∷ 0 ∷ 0 ∷ 11 ∷ 12 ∷ 0 ∷ 1 ∷ 0 ∷ 0 ∷ 0 ∷ 0 ∷ 0 ∷ 0 ∷ 0 ∷ 0 ∷ 2 ∷ 11 ∷ 12 ∷ 0 ∷ 1 ∷ 9 ∷ 10 ∷ 0 ∷ 0 ∷ 0 ∷ 0 ∷ 0 ∷ 0 ∷ 0 ∷ 0 ∷ 0 ∷ 0 ∷ 0 ∷ 0 ∷ 0 ∷ 0 ∷ 0 ∷ 0 ∷ 0 ∷ 0 ∷ 0 ∷ 0 ∷ 0 ∷ 0 ∷ [])
    -- `%left'a'`, kind 1
    ∷ row 1 (37 ∷ 108 ∷ 101 ∷ 102 ∷ 116 ∷ 39 ∷ 97 ∷ 39 ∷ []) (10 ∷ 8 ∷ 8 ∷ 0 ∷ 0 ∷ 0 ∷ 0 ∷ 0 ∷ 0 ∷ 0 ∷ 0 ∷ 0 ∷ 0 ∷ 0 ∷ 0 ∷ 0 ∷ 0 ∷ 0 ∷ 0 ∷ 0 ∷ 0 ∷ 0 ∷ 0 ∷ 0 ∷ 0 ∷ 0 ∷ 0 ∷ 0 ∷ 0 ∷ 0 ∷ 0 ∷ 0 ∷ 0 ∷ 0 ∷ 0 ∷ 0 ∷ 0 ∷ 0 ∷ [])
    -- `%avoid_insert'a'`, kind 1
    ∷ row 1 (37 ∷ 97 ∷ 118 ∷ 111 ∷ 105 ∷ 100 ∷ 95 ∷ 105 ∷ 110 ∷ 115 ∷ 101 ∷ 114 ∷ 116 ∷ 39 ∷ 97 ∷ 39 ∷ []) (3 ∷ 16 ∷ 16 ∷ 0 ∷ 0 ∷ 0 ∷ 0 ∷ 0 ∷ 0 ∷ 0 ∷ 0 ∷ 0 ∷ 0 ∷ 0 ∷ 0 ∷ 0 ∷ 0 ∷ 0 ∷ 0 ∷ 0 ∷ 0 ∷ 0 ∷ 0 ∷ 0 ∷ 0 ∷ 0 ∷ 0 ∷ 0 ∷ 0 ∷ 0 ∷ 0 ∷ 0 ∷ 0 ∷ 0 ∷ 0 ∷ 0 ∷ 0 ∷ 0 ∷ [])
    -- `%%/*\n/s:;`, kind 1
    ∷ row 1 (37 ∷ 37 ∷ 47 ∷ 42 ∷ 10 ∷ 47 ∷ 115 ∷ 58 ∷ 59 ∷ []) (0 ∷ 9 ∷ 9 ∷ 0 ∷ 0 ∷ 0 ∷ 0 ∷ 0 ∷ 0 ∷ 1 ∷ 1 ∷ 0 ∷ 0 ∷ 6 ∷ 7 ∷ 0 ∷ 0 ∷ 0 ∷ 0 ∷ 8 ∷ 8 ∷ 0 ∷ 0 ∷ 0 ∷ 0 ∷ 0 ∷ 0 ∷ 0 ∷ 0 ∷ 0 ∷ 0 ∷ 1 ∷ 6 ∷ 7 ∷ 0 ∷ 0 ∷ 0 ∷ 0 ∷ 0 ∷ 0 ∷ 0 ∷ 0 ∷ 0 ∷ 0 ∷ 0 ∷ 0 ∷ 0 ∷ 0 ∷ 0 ∷ 0 ∷ 0 ∷ 0 ∷ 0 ∷ 0 ∷ 0 ∷ 0 ∷ [])
    -- `%%/*/`, kind 1
    ∷ row 1 (37 ∷ 37 ∷ 47 ∷ 42 ∷ 47 ∷ []) (5 ∷ 2 ∷ 2 ∷ 0 ∷ 0 ∷ 0 ∷ 0 ∷ 0 ∷ 0 ∷ 0 ∷ 0 ∷ 0 ∷ 0 ∷ 0 ∷ 0 ∷ 0 ∷ 0 ∷ 0 ∷ 0 ∷ 0 ∷ 0 ∷ 0 ∷ 0 ∷ 0 ∷ 0 ∷ 0 ∷ 0 ∷ 0 ∷ 0 ∷ 0 ∷ 0 ∷ 0 ∷ 0 ∷ 0 ∷ 0 ∷ 0 ∷ 0 ∷ 0 ∷ [])
    -- `%token\n_a`, kind 1
    ∷ row 1 (37 ∷ 116 ∷ 111 ∷ 107 ∷ 101 ∷ 110 ∷ 10 ∷ 65 ∷ []) (13 ∷ 6 ∷ 6 ∷ 0 ∷ 0 ∷ 0 ∷ 0 ∷ 0 ∷ 0 ∷ 0 ∷ 0 ∷ 0 ∷ 0 ∷ 0 ∷ 0 ∷ 0 ∷ 0 ∷ 0 ∷ 0 ∷ 0 ∷ 0 ∷ 0 ∷ 0 ∷ 0 ∷ 0 ∷ 0 ∷ 0 ∷ 0 ∷ 0 ∷ 0 ∷ 0 ∷ 0 ∷ 0 ∷ 0 ∷ 0 ∷ 0 ∷ 0 ∷ 0 ∷ [])
    -- `%token//\n_a%%s:A;`, kind 1
    ∷ row 1 (37 ∷ 116 ∷ 111 ∷ 107 ∷ 101 ∷ 110 ∷ 47 ∷ 47 ∷ 10 ∷ 65 ∷ 37 ∷ 37 ∷ 115 ∷ 58 ∷ 65 ∷ 59 ∷ []) (0 ∷ 16 ∷ 16 ∷ 1 ∷ 0 ∷ 0 ∷ 0 ∷ 0 ∷ 0 ∷ 1 ∷ 1 ∷ 1 ∷ 0 ∷ 9 ∷ 10 ∷ 1 ∷ 12 ∷ 13 ∷ 0 ∷ 0 ∷ 0 ∷ 0 ∷ 14 ∷ 15 ∷ 0 ∷ 1 ∷ 0 ∷ 0 ∷ 0 ∷ 0 ∷ 0 ∷ 0 ∷ 0 ∷ 0 ∷ 2 ∷ 14 ∷ 15 ∷ 0 ∷ 1 ∷ 12 ∷ 13 ∷ 0 ∷ 0 ∷ 0 ∷ 0 ∷ 0 ∷ 0 ∷ 0 ∷ 0 ∷ 0 ∷ 0 ∷ 0 ∷ 0 ∷ 0 ∷ 0 ∷ 0 ∷ 0 ∷ 0 ∷ 0 ∷ 0 ∷ 0 ∷ 0 ∷ 0 ∷ [])
    -- `%token//\r\n_a`, kind 1
    ∷ row 1 (37 ∷ 116 ∷ 111 ∷ 107 ∷ 101 ∷ 110 ∷ 47 ∷ 47 ∷ 13 ∷ 10 ∷ 65 ∷ []) (13 ∷ 9 ∷ 9 ∷ 0 ∷ 0 ∷ 0 ∷ 0 ∷ 0 ∷ 0 ∷ 0 ∷ 0 ∷ 0 ∷ 0 ∷ 0 ∷ 0 ∷ 0 ∷ 0 ∷ 0 ∷ 0 ∷ 0 ∷ 0 ∷ 0 ∷ 0 ∷ 0 ∷ 0 ∷ 0 ∷ 0 ∷ 0 ∷ 0 ∷ 0 ∷ 0 ∷ 0 ∷ 0 ∷ 0 ∷ 0 ∷ 0 ∷ 0 ∷ 0 ∷ [])
    -- `%%s:""x";`, kind 1
    ∷ row 1 (37 ∷ 37 ∷ 115 ∷ 58 ∷ 34 ∷ 34 ∷ 120 ∷ 34 ∷ 59 ∷ []) (0 ∷ 9 ∷ 9 ∷ 1 ∷ 0 ∷ 0 ∷ 0 ∷ 0 ∷ 0 ∷ 1 ∷ 1 ∷ 1 ∷ 0 ∷ 5 ∷ 7 ∷ 0 ∷ 2 ∷ 3 ∷ 0 ∷ 0 ∷ 0 ∷ 0 ∷ 4 ∷ 8 ∷ 0 ∷ 1 ∷ 0 ∷ 0 ∷ 0 ∷ 0 ∷ 0 ∷ 0 ∷ 0 ∷ 0 ∷ 2 ∷ 5 ∷ 7 ∷ 0 ∷ 1 ∷ 2 ∷ 3 ∷ 0 ∷ 0 ∷ 0 ∷ 0 ∷ 0 ∷ 0 ∷ 0 ∷ 0 ∷ 0 ∷ 0 ∷ 0 ∷ 0 ∷ 0 ∷ 0 ∷ 0 ∷ 0 ∷ 0 ∷ 0 ∷ 0 ∷ 0 ∷ 0 ∷ 0 ∷ [])
    -- `%%s:{ };`, kind 1
    ∷ row 1 (37 ∷ 37 ∷ 115 ∷ 58 ∷ 123 ∷ 32 ∷ 125 ∷ 59 ∷ []) (0 ∷ 8 ∷ 8 ∷ 0 ∷ 0 ∷ 0 ∷ 0 ∷ 0 ∷ 0 ∷ 1 ∷ 1 ∷ 0 ∷ 0 ∷ 2 ∷ 3 ∷ 0 ∷ 0 ∷ 0 ∷ 0 ∷ 4 ∷ 4 ∷ 0 ∷ 0 ∷ 0 ∷ 0 ∷ 0 ∷ 1 ∷ 5 ∷ 5 ∷ 5 ∷ 5 ∷ 1 ∷ 2 ∷ 3 ∷ 0 ∷ 0 ∷ 0 ∷ 0 ∷ 0 ∷ 0 ∷ 0 ∷ 0 ∷ 0 ∷ 0 ∷ 0 ∷ 0 ∷ 0 ∷ 0 ∷ 0 ∷ 0 ∷ 0 ∷ 0 ∷ 0 ∷ 0 ∷ 0 ∷ 0 ∷ [])
    -- `%%s:%empty%prec A'b';`, kind 1
    ∷ row 1 (37 ∷ 37 ∷ 115 ∷ 58 ∷ 37 ∷ 101 ∷ 109 ∷ 112 ∷ 116 ∷ 121 ∷ 37 ∷ 112 ∷ 114 ∷ 101 ∷ 99 ∷ 32 ∷ 65 ∷ 39 ∷ 98 ∷ 39 ∷ 59 ∷ []) (0 ∷ 21 ∷ 21 ∷ 2 ∷ 0 ∷ 0 ∷ 0 ∷ 0 ∷ 0 ∷ 1 ∷ 1 ∷ 1 ∷ 0 ∷ 16 ∷ 17 ∷ 0 ∷ 18 ∷ 19 ∷ 0 ∷ 2 ∷ 3 ∷ 0 ∷ 0 ∷ 0 ∷ 0 ∷ 4 ∷ 20 ∷ 0 ∷ 1 ∷ 1 ∷ 16 ∷ 17 ∷ 0 ∷ 0 ∷ 0 ∷ 0 ∷ 0 ∷ 2 ∷ 18 ∷ 19 ∷ 1 ∷ 1 ∷ 2 ∷ 3 ∷ 0 ∷ 0 ∷ 0 ∷ 0 ∷ 0 ∷ 0 ∷ 0 ∷ 0 ∷ 0 ∷ 0 ∷ 0 ∷ 0 ∷ 0 ∷ 0 ∷ 0 ∷ 0 ∷ 0 ∷ 0 ∷ 0 ∷ 0 ∷ 0 ∷ 0 ∷ [])
    -- `%start a%start b%%a:;`, kind 1
    ∷ row 1 (37 ∷ 115 ∷ 116 ∷ 97 ∷ 114 ∷ 116 ∷ 32 ∷ 97 ∷ 37 ∷ 115 ∷ 116 ∷ 97 ∷ 114 ∷ 116 ∷ 32 ∷ 98 ∷ 37 ∷ 37 ∷ 97 ∷ 58 ∷ 59 ∷ []) (25 ∷ 7 ∷ 8 ∷ 0 ∷ 0 ∷ 0 ∷ 0 ∷ 0 ∷ 0 ∷ 1 ∷ 1 ∷ 0 ∷ 1 ∷ 18 ∷ 19 ∷ 0 ∷ 0 ∷ 0 ∷ 0 ∷ 20 ∷ 20 ∷ 0 ∷ 0 ∷ 0 ∷ 0 ∷ 0 ∷ 0 ∷ 0 ∷ 0 ∷ 0 ∷ 0 ∷ 25 ∷ 7 ∷ 8 ∷ 15 ∷ 16 ∷ 1 ∷ 7 ∷ 8 ∷ 0 ∷ 0 ∷ 0 ∷ 0 ∷ 0 ∷ 0 ∷ 0 ∷ 0 ∷ 0 ∷ 0 ∷ 0 ∷ 0 ∷ 0 ∷ 0 ∷ 0 ∷ 0 ∷ 0 ∷ 0 ∷ 0 ∷ 0 ∷ 0 ∷ 0 ∷ [])
    -- `%token A%expect-unused A%%s:A;`, kind 1
    ∷ row 1 (37 ∷ 116 ∷ 111 ∷ 107 ∷ 101 ∷ 110 ∷ 32 ∷ 65 ∷ 37 ∷ 101 ∷ 120 ∷ 112 ∷ 101 ∷ 99 ∷ 116 ∷ 45 ∷ 117 ∷ 110 ∷ 117 ∷ 115 ∷ 101 ∷ 100 ∷ 32 ∷ 65 ∷ 37 ∷ 37 ∷ 115 ∷ 58 ∷ 65 ∷ 59 ∷ []) (0 ∷ 30 ∷ 30 ∷ 1 ∷ 0 ∷ 0 ∷ 0 ∷ 0 ∷ 1 ∷ 1 ∷ 1 ∷ 1 ∷ 0 ∷ 7 ∷ 8 ∷ 1 ∷ 1 ∷ 23 ∷ 24 ∷ 26 ∷ 27 ∷ 0 ∷ 0 ∷ 0 ∷ 0 ∷ 28 ∷ 29 ∷ 0 ∷ 1 ∷ 0 ∷ 0 ∷ 0 ∷ 0 ∷ 0 ∷ 0 ∷ 0 ∷ 0 ∷ 2 ∷ 28 ∷ 29 ∷ 0 ∷ 1 ∷ 26 ∷ 27 ∷ 0 ∷ 0 ∷ 0 ∷ 0 ∷ 0 ∷ 0 ∷ 0 ∷ 0 ∷ 0 ∷ 0 ∷ 0 ∷ 0 ∷ 0 ∷ 0 ∷ 0 ∷ 0 ∷ 0 ∷ 0 ∷ 0 ∷ 0 ∷ 0 ∷ 0 ∷ [])
    -- `%expect18446744073709551616`, kind 1
    ∷ row 1 (37 ∷ 101 ∷ 120 ∷ 112 ∷ 101 ∷ 99 ∷ 116 ∷ 49 ∷ 56 ∷ 52 ∷ 52 ∷ 54 ∷ 55 ∷ 52 ∷ 52 ∷ 48 ∷ 55 ∷ 51 ∷ 55 ∷ 48 ∷ 57 ∷ 53 ∷ 53 ∷ 49 ∷ 54 ∷ 49 ∷ 54 ∷ []) (1 ∷ 7 ∷ 7 ∷ 0 ∷ 0 ∷ 0 ∷ 0 ∷ 0 ∷ 0 ∷ 0 ∷ 0 ∷ 0 ∷ 0 ∷ 0 ∷ 0 ∷ 0 ∷ 0 ∷ 0 ∷ 0 ∷ 0 ∷ 0 ∷ 0 ∷ 0 ∷ 0 ∷ 0 ∷ 0 ∷ 0 ∷ 0 ∷ 0 ∷ 0 ∷ 0 ∷ 0 ∷ 0 ∷ 0 ∷ 0 ∷ 0 ∷ 0 ∷ 0 ∷ [])
    -- `%left 'a' // x\n%left 'b'\n%%s:;`, kind 1
    ∷ row 1 (37 ∷ 108 ∷ 101 ∷ 102 ∷ 116 ∷ 32 ∷ 39 ∷ 97 ∷ 39 ∷ 32 ∷ 47 ∷ 47 ∷ 32 ∷ 120 ∷ 10 ∷ 37 ∷ 108 ∷ 101 ∷ 102 ∷ 116 ∷ 32 ∷ 39 ∷ 98 ∷ 39 ∷ 10 ∷ 37 ∷ 37 ∷ 115 ∷ 58 ∷ 59 ∷ []) (0 ∷ 30 ∷ 30 ∷ 0 ∷ 2 ∷ 0 ∷ 0 ∷ 0 ∷ 0 ∷ 1 ∷ 1 ∷ 0 ∷ 0 ∷ 7 ∷ 8 ∷ 0 ∷ 1 ∷ 22 ∷ 23 ∷ 1 ∷ 1 ∷ 27 ∷ 28 ∷ 0 ∷ 0 ∷ 0 ∷ 0 ∷ 29 ∷ 29 ∷ 0 ∷ 0 ∷ 0 ∷ 0 ∷ 0 ∷ 0 ∷ 0 ∷ 0 ∷ 0 ∷ 0 ∷ 1 ∷ 27 ∷ 28 ∷ 0 ∷ 0 ∷ 0 ∷ 0 ∷ 0 ∷ 0 ∷ 0 ∷ 0 ∷ 0 ∷ 0 ∷ 0 ∷ 0 ∷ 0 ∷ 0 ∷ 0 ∷ 0 ∷ 0 ∷ 0 ∷ 0 ∷ 0 ∷ 0 ∷ 0 ∷ [])
    -- `%%s:a.b;`, kind 1
    ∷ row 1 (37 ∷ 37 ∷ 115 ∷ 58 ∷ 97 ∷ 46 ∷ 98 ∷ 59 ∷ []) (3 ∷ 5 ∷ 5 ∷ 0 ∷ 0 ∷ 0 ∷ 0 ∷ 0 ∷ 0 ∷ 0 ∷ 0 ∷ 0 ∷ 0 ∷ 0 ∷ 0 ∷ 0 ∷ 0 ∷ 0 ∷ 0 ∷ 0 ∷ 0 ∷ 0 ∷ 0 ∷ 0 ∷ 0 ∷ 0 ∷ 0 ∷ 0 ∷ 0 ∷ 0 ∷ 0 ∷ 0 ∷ 0 ∷ 0 ∷ 0 ∷ 0 ∷ 0 ∷ 0 ∷ [])
    -- `%%s:a|b c;a:;`, kind 1
    ∷ row 1 (37 ∷ 37 ∷ 115 ∷ 58 ∷ 97 ∷ 124 ∷ 98 ∷ 32 ∷ 99 ∷ 59 ∷ 97 ∷ 58 ∷ 59 ∷ []) (0 ∷ 13 ∷ 13 ∷ 0 ∷ 0 ∷ 0 ∷ 0 ∷ 0 ∷ 0 ∷ 2 ∷ 3 ∷ 3 ∷ 0 ∷ 2 ∷ 3 ∷ 0 ∷ 0 ∷ 0 ∷ 10 ∷ 11 ∷ 0 ∷ 0 ∷ 0 ∷ 0 ∷ 4 ∷ 5 ∷ 0 ∷ 1 ∷ 0 ∷ 0 ∷ 0 ∷ 0 ∷ 0 ∷ 0 ∷ 0 ∷ 0 ∷ 0 ∷ 6 ∷ 9 ∷ 1 ∷ 3 ∷ 0 ∷ 0 ∷ 0 ∷ 0 ∷ 0 ∷ 0 ∷ 0 ∷ 0 ∷ 1 ∷ 12 ∷ 12 ∷ 3 ∷ 3 ∷ 0 ∷ 0 ∷ 0 ∷ 0 ∷ 0 ∷ 0 ∷ 0 ∷ 0 ∷ 1 ∷ 4 ∷ 5 ∷ 1 ∷ 1 ∷ 6 ∷ 7 ∷ 4294967295 ∷ 1 ∷ 8 ∷ 9 ∷ 4294967295 ∷ 1 ∷ 2 ∷ 3 ∷ 0 ∷ 0 ∷ 0 ∷ 0 ∷ 0 ∷ 0 ∷ 0 ∷ 0 ∷ 0 ∷ 0 ∷ 0 ∷ 0 ∷ 0 ∷ 0 ∷ 0 ∷ 0 ∷ 0 ∷ 0 ∷ 0 ∷ 0 ∷ 0 ∷ 0 ∷ [])
    -- `%%s-> T::U :{ x }|;`, kind 2
    ∷ row 2 (37 ∷ 37 ∷ 115 ∷ 45 ∷ 62 ∷ 32 ∷ 84 ∷ 58 ∷ 58 ∷ 85 ∷ 32 ∷ 58 ∷ 123 ∷ 32 ∷ 120 ∷ 32 ∷ 125 ∷ 124 ∷ 59 ∷ []) (0 ∷ 19 ∷ 19 ∷ 0 ∷ 0 ∷ 0 ∷ 0 ∷ 0 ∷ 0 ∷ 1 ∷ 2 ∷ 0 ∷ 0 ∷ 2 ∷ 3 ∷ 1 ∷ 6 ∷ 10 ∷ 0 ∷ 12 ∷ 12 ∷ 0 ∷ 0 ∷ 0 ∷ 0 ∷ 0 ∷ 1 ∷ 14 ∷ 15 ∷ 13 ∷ 14 ∷ 0 ∷ 18 ∷ 18 ∷ 0 ∷ 0 ∷ 0 ∷ 0 ∷ 0 ∷ 0 ∷ 0 ∷ 0 ∷ 0 ∷ 0 ∷ 1 ∷ 2 ∷ 3 ∷ 0 ∷ 0 ∷ 0 ∷ 0 ∷ 0 ∷ 0 ∷ 0 ∷ 0 ∷ 0 ∷ 0 ∷ 0 ∷ 0 ∷ 0 ∷ 0 ∷ 0 ∷ 0 ∷ 0 ∷ 0 ∷ 0 ∷ 0 ∷ 0 ∷ 0 ∷ [])
    -- `%actiontype T\n%%s:;s:a;`, kind 1
    ∷ row 1 (37 ∷ 97 ∷ 99 ∷ 116 ∷ 105 ∷ 111 ∷ 110 ∷ 116 ∷ 121 ∷ 112 ∷ 101 ∷ 32 ∷ 84 ∷ 10 ∷ 37 ∷ 37 ∷ 115 ∷ 58 ∷ 59 ∷ 115 ∷ 58 ∷ 97 ∷ 59 ∷ []) (0 ∷ 23 ∷ 23 ∷ 0 ∷ 0 ∷ 0 ∷ 0 ∷ 0 ∷ 0 ∷ 1 ∷ 2 ∷ 1 ∷ 0 ∷ 16 ∷ 17 ∷ 1 ∷ 12 ∷ 13 ∷ 0 ∷ 18 ∷ 18 ∷ 0 ∷ 0 ∷ 0 ∷ 0 ∷ 0 ∷ 0 ∷ 0 ∷ 0 ∷ 0 ∷ 0 ∷ 0 ∷ 21 ∷ 22 ∷ 0 ∷ 1 ∷ 0 ∷ 0 ∷ 0 ∷ 0 ∷ 0 ∷ 0 ∷ 0 ∷ 0 ∷ 1 ∷ 21 ∷ 22 ∷ 4294967295 ∷ 1 ∷ 16 ∷ 17 ∷ 0 ∷ 0 ∷ 0 ∷ 0 ∷ 0 ∷ 0 ∷ 0 ∷ 0 ∷ 0 ∷ 0 ∷ 0 ∷ 0 ∷ 0 ∷ 0 ∷ 0 ∷ 0 ∷ 0 ∷ 0 ∷ 0 ∷ 0 ∷ 0 ∷ 0 ∷ [])
    -- `%%s:'a'%prec b%prec 'c';%% // x\n q`, kind 1
    ∷ row 1 (37 ∷ 37 ∷ 115 ∷ 58 ∷ 39 ∷ 97 ∷ 39 ∷ 37 ∷ 112 ∷ 114 ∷ 101 ∷ 99 ∷ 32 ∷ 98 ∷ 37 ∷ 112 ∷ 114 ∷ 101 ∷ 99 ∷ 32 ∷ 39 ∷ 99 ∷ 39 ∷ 59 ∷ 37 ∷ 37 ∷ 32 ∷ 47 ∷ 47 ∷ 32 ∷ 120 ∷ 10 ∷ 32 ∷ 113 ∷ []) (0 ∷ 34 ∷ 34 ∷ 3 ∷ 0 ∷ 0 ∷ 0 ∷ 0 ∷ 0 ∷ 1 ∷ 1 ∷ 1 ∷ 0 ∷ 5 ∷ 6 ∷ 0 ∷ 13 ∷ 14 ∷ 0 ∷ 21 ∷ 22 ∷ 0 ∷ 2 ∷ 3 ∷ 0 ∷ 0 ∷ 0 ∷ 0 ∷ 4 ∷ 23 ∷ 0 ∷ 1 ∷ 1 ∷ 21 ∷ 22 ∷ 0 ∷ 0 ∷ 0 ∷ 0 ∷ 0 ∷ 2 ∷ 5 ∷ 6 ∷ 0 ∷ 1 ∷ 2 ∷ 3 ∷ 0 ∷ 0 ∷ 0 ∷ 0 ∷ 0 ∷ 0 ∷ 0 ∷ 0 ∷ 0 ∷ 0 ∷ 0 ∷ 0 ∷ 0 ∷ 0 ∷ 0 ∷ 0 ∷ 1 ∷ 33 ∷ 34 ∷ 0 ∷ 0 ∷ 0 ∷ [])
    -- `%%s:{a}b;`, kind 1
    ∷ row 1 (37 ∷ 37 ∷ 115 ∷ 58 ∷ 123 ∷ 97 ∷ 125 ∷ 98 ∷ 59 ∷ []) (11 ∷ 7 ∷ 7 ∷ 0 ∷ 0 ∷ 0 ∷ 0 ∷ 0 ∷ 0 ∷ 0 ∷ 0 ∷ 0 ∷ 0 ∷ 0 ∷ 0 ∷ 0 ∷ 0 ∷ 0 ∷ 0 ∷ 0 ∷ 0 ∷ 0 ∷ 0 ∷ 0 ∷ 0 ∷ 0 ∷ 0 ∷ 0 ∷ 0 ∷ 0 ∷ 0 ∷ 0 ∷ 0 ∷ 0 ∷ 0 ∷ 0 ∷ 0 ∷ 0 ∷ [])
    -- `%%s:%empty b;`, kind 1
    ∷ row 1 (37 ∷ 37 ∷ 115 ∷ 58 ∷ 37 ∷ 101 ∷ 109 ∷ 112 ∷ 116 ∷ 121 ∷ 32 ∷ 98 ∷ 59 ∷ []) (9 ∷ 4 ∷ 4 ∷ 0 ∷ 0 ∷ 0 ∷ 0 ∷ 0 ∷ 0 ∷ 0 ∷ 0 ∷ 0 ∷ 0 ∷ 0 ∷ 0 ∷ 0 ∷ 0 ∷ 0 ∷ 0 ∷ 0 ∷ 0 ∷ 0 ∷ 0 ∷ 0 ∷ 0 ∷ 0 ∷ 0 ∷ 0 ∷ 0 ∷ 0 ∷ 0 ∷ 0 ∷ 0 ∷ 0 ∷ 0 ∷ 0 ∷ 0 ∷ 0 ∷ [])
    -- `%%s a;`, kind 1
    ∷ row 1 (37 ∷ 37 ∷ 115 ∷ 32 ∷ 97 ∷ 59 ∷ []) (7 ∷ 4 ∷ 4 ∷ 0 ∷ 0 ∷ 0 ∷ 0 ∷ 0 ∷ 0 ∷ 0 ∷ 0 ∷ 0 ∷ 0 ∷ 0 ∷ 0 ∷ 0 ∷ 0 ∷ 0 ∷ 0 ∷ 0 ∷ 0 ∷ 0 ∷ 0 ∷ 0 ∷ 0 ∷ 0 ∷ 0 ∷ 0 ∷ 0 ∷ 0 ∷ 0 ∷ 0 ∷ 0 ∷ 0 ∷ 0 ∷ 0 ∷ 0 ∷ 0 ∷ [])
    -- `%%s:a`, kind 1
    ∷ row 1 (37 ∷ 37 ∷ 115 ∷ 58 ∷ 97 ∷ []) (4 ∷ 5 ∷ 5 ∷ 0 ∷ 0 ∷ 0 ∷ 0 ∷ 0 ∷ 0 ∷ 0 ∷ 0 ∷ 0 ∷ 0 ∷ 0 ∷ 0 ∷ 0 ∷ 0 ∷ 0 ∷ 0 ∷ 0 ∷ 0 ∷ 0 ∷ 0 ∷ 0 ∷ 0 ∷ 0 ∷ 0 ∷ 0 ∷ 0 ∷ 0 ∷ 0 ∷ 0 ∷ 0 ∷ 0 ∷ 0 ∷ 0 ∷ 0 ∷ 0 ∷ [])
    -- `%%s:{{};`, kind 1
    ∷ row 1 (37 ∷ 37 ∷ 115 ∷ 58 ∷ 123 ∷ 123 ∷ 125 ∷ 59 ∷ []) (6 ∷ 4 ∷ 4 ∷ 0 ∷ 0 ∷ 0 ∷ 0 ∷ 0 ∷ 0 ∷ 0 ∷ 0 ∷ 0 ∷ 0 ∷ 0 ∷ 0 ∷ 0 ∷ 0 ∷ 0 ∷ 0 ∷ 0 ∷ 0 ∷ 0 ∷ 0 ∷ 0 ∷ 0 ∷ 0 ∷ 0 ∷ 0 ∷ 0 ∷ 0 ∷ 0 ∷ 0 ∷ 0 ∷ 0 ∷ 0 ∷ 0 ∷ 0 ∷ 0 ∷ [])
    -- `%%9`, kind 1
    ∷ row 1 (37 ∷ 37 ∷ 57 ∷ []) (2 ∷ 2 ∷ 2 ∷ 0 ∷ 0 ∷ 0 ∷ 0 ∷ 0 ∷ 0 ∷ 0 ∷ 0 ∷ 0 ∷ 0 ∷ 0 ∷ 0 ∷ 0 ∷ 0 ∷ 0 ∷ 0 ∷ 0 ∷ 0 ∷ 0 ∷ 0 ∷ 0 ∷ 0 ∷ 0 ∷ 0 ∷ 0 ∷ 0 ∷ 0 ∷ 0 ∷ 0 ∷ 0 ∷ 0 ∷ 0 ∷ 0 ∷ 0 ∷ 0 ∷ [])
    -- `%%s->t`, kind 2
    ∷ row 2 (37 ∷ 37 ∷ 115 ∷ 45 ∷ 62 ∷ 116 ∷ []) (16 ∷ 6 ∷ 6 ∷ 0 ∷ 0 ∷ 0 ∷ 0 ∷ 0 ∷ 0 ∷ 0 ∷ 0 ∷ 0 ∷ 0 ∷ 0 ∷ 0 ∷ 0 ∷ 0 ∷ 0 ∷ 0 ∷ 0 ∷ 0 ∷ 0 ∷ 0 ∷ 0 ∷ 0 ∷ 0 ∷ 0 ∷ 0 ∷ 0 ∷ 0 ∷ 0 ∷ 0 ∷ 0 ∷ 0 ∷ 0 ∷ 0 ∷ 0 ∷ 0 ∷ [])
    -- `%implicit_tokens A\n%%s:A;`, kind 3
    ∷ row 3 (37 ∷ 105 ∷ 109 ∷ 112 ∷ 108 ∷ 105 ∷ 99 ∷ 105 ∷ 116 ∷ 95 ∷ 116 ∷ 111 ∷ 107 ∷ 101 ∷ 110 ∷ 115 ∷ 32 ∷ 65 ∷ 10 ∷ 37 ∷ 37 ∷ 115 ∷ 58 ∷ 65 ∷ 59 ∷ []) (0 ∷ 25 ∷ 25 ∷ 1 ∷ 0 ∷ 0 ∷ 1 ∷ 0 ∷ 0 ∷ 1 ∷ 1 ∷ 1 ∷ 0 ∷ 17 ∷ 18 ∷ 0 ∷ 17 ∷ 18 ∷ 21 ∷ 22 ∷ 0 ∷ 0 ∷ 0 ∷ 0 ∷ 23 ∷ 24 ∷ 0 ∷ 1 ∷ 0 ∷ 0 ∷ 0 ∷ 0 ∷ 0 ∷ 0 ∷ 0 ∷ 0 ∷ 1 ∷ 23 ∷ 24 ∷ 4294967295 ∷ 1 ∷ 21 ∷ 22 ∷ 0 ∷ 0 ∷ 0 ∷ 0 ∷ 0 ∷ 0 ∷ 0 ∷ 0 ∷ 0 ∷ 0 ∷ 0 ∷ 0 ∷ 0 ∷ 0 ∷ 0 ∷ 0 ∷ 0 ∷ 0 ∷ 0 ∷ 0 ∷ 0 ∷ 0 ∷ [])
    -- `%token A%%s:A 'A' B;`, kind 1
    ∷ row 1 (37 ∷ 116 ∷ 111 ∷ 107 ∷ 101 ∷ 110 ∷ 32 ∷ 65 ∷ 37 ∷ 37 ∷ 115 ∷ 58 ∷ 65 ∷ 32 ∷ 39 ∷ 65 ∷ 39 ∷ 32 ∷ 66 ∷ 59 ∷ []) (0 ∷ 20 ∷ 20 ∷ 1 ∷ 0 ∷ 0 ∷ 0 ∷ 0 ∷ 0 ∷ 1 ∷ 1 ∷ 3 ∷ 0 ∷ 7 ∷ 8 ∷ 1 ∷ 10 ∷ 11 ∷ 0 ∷ 0 ∷ 0 ∷ 0 ∷ 12 ∷ 19 ∷ 0 ∷ 3 ∷ 0 ∷ 0 ∷ 0 ∷ 0 ∷ 0 ∷ 0 ∷ 0 ∷ 0 ∷ 2 ∷ 12 ∷ 13 ∷ 0 ∷ 2 ∷ 15 ∷ 16 ∷ 0 ∷ 1 ∷ 18 ∷ 19 ∷ 4294967295 ∷ 1 ∷ 10 ∷ 11 ∷ 0 ∷ 0 ∷ 0 ∷ 0 ∷ 0 ∷ 0 ∷ 0 ∷ 0 ∷ 0 ∷ 0 ∷ 0 ∷ 0 ∷ 0 ∷ 0 ∷ 0 ∷ 0 ∷ 0 ∷ 0 ∷ 0 ∷ 0 ∷ 0 ∷ 0 ∷ [])
    -- `%parse-param p : q\n%parse-generics 'a\n%expect 2%expect_rr 3%%s:;`, kind 1
    ∷ row 1 (37 ∷ 112 ∷ 97 ∷ 114 ∷ 115 ∷ 101 ∷ 45 ∷ 112 ∷ 97 ∷ 114 ∷ 97 ∷ 109 ∷ 32 ∷ 112 ∷ 32 ∷ 58 ∷ 32 ∷ 113 ∷ 10 ∷ 37 ∷ 112 ∷ 97 ∷ 114 ∷ 115 ∷ 101 ∷ 45 ∷ 103 ∷ 101 ∷ 110 ∷ 101 ∷ 114 ∷ 105 ∷ 99 ∷ 115 ∷ 32 ∷ 39 ∷ 97 ∷ 10 ∷ 37 ∷ 101 ∷ 120 ∷ 112 ∷ 101 ∷ 99 ∷ 116 ∷ 32 ∷ 50 ∷ 37 ∷ 101 ∷ 120 ∷ 112 ∷ 101 ∷ 99 ∷ 116 ∷ 45 ∷ 114 ∷ 114 ∷ 32 ∷ 51 ∷ 37 ∷ 37 ∷ 115 ∷ 58 ∷ 59 ∷ []) (0 ∷ 64 ∷ 64 ∷ 0 ∷ 0 ∷ 0 ∷ 0 ∷ 0 ∷ 0 ∷ 1 ∷ 1 ∷ 0 ∷ 0 ∷ 61 ∷ 62 ∷ 0 ∷ 0 ∷ 0 ∷ 0 ∷ 63 ∷ 63 ∷ 0 ∷ 0 ∷ 0 ∷ 0 ∷ 0 ∷ 0 ∷ 0 ∷ 0 ∷ 0 ∷ 0 ∷ 1 ∷ 61 ∷ 62 ∷ 1 ∷ 2 ∷ 46 ∷ 47 ∷ 1 ∷ 3 ∷ 58 ∷ 59 ∷ 1 ∷ 13 ∷ 14 ∷ 17 ∷ 18 ∷ 1 ∷ 35 ∷ 37 ∷ 0 ∷ 0 ∷ 0 ∷ 0 ∷ 0 ∷ 0 ∷ [])
    -- `%token<t>A 300'b'%%s:A'b';`, kind 4
    ∷ row 4 (37 ∷ 116 ∷ 111 ∷ 107 ∷ 101 ∷ 110 ∷ 60 ∷ 116 ∷ 62 ∷ 65 ∷ 32 ∷ 51 ∷ 48 ∷ 48 ∷ 39 ∷ 98 ∷ 39 ∷ 37 ∷ 37 ∷ 115 ∷ 58 ∷ 65 ∷ 39 ∷ 98 ∷ 39 ∷ 59 ∷ []) (0 ∷ 26 ∷ 26 ∷ 2 ∷ 0 ∷ 0 ∷ 0 ∷ 0 ∷ 0 ∷ 1 ∷ 1 ∷ 2 ∷ 0 ∷ 9 ∷ 10 ∷ 1 ∷ 15 ∷ 16 ∷ 1 ∷ 19 ∷ 20 ∷ 0 ∷ 0 ∷ 0 ∷ 0 ∷ 21 ∷ 25 ∷ 0 ∷ 2 ∷ 0 ∷ 0 ∷ 0 ∷ 0 ∷ 0 ∷ 0 ∷ 0 ∷ 0 ∷ 2 ∷ 21 ∷ 22 ∷ 0 ∷ 2 ∷ 23 ∷ 24 ∷ 1 ∷ 1 ∷ 19 ∷ 20 ∷ 0 ∷ 0 ∷ 0 ∷ 0 ∷ 0 ∷ 0 ∷ 0 ∷ 0 ∷ 0 ∷ 0 ∷ 0 ∷ 0 ∷ 0 ∷ 0 ∷ 0 ∷ 0 ∷ 0 ∷ 0 ∷ 0 ∷ 2 ∷ 1 ∷ 0 ∷ 9 ∷ 10 ∷ 7 ∷ 8 ∷ 15 ∷ 16 ∷ 7 ∷ 8 ∷ 9 ∷ 10 ∷ 300 ∷ [])
    -- `%left<t>'a'\n%%s:'a';`, kind 4
    ∷ row 4 (37 ∷ 108 ∷ 101 ∷ 102 ∷ 116 ∷ 60 ∷ 116 ∷ 62 ∷ 39 ∷ 97 ∷ 39 ∷ 10 ∷ 37 ∷ 37 ∷ 115 ∷ 58 ∷ 39 ∷ 97 ∷ 39 ∷ 59 ∷ []) (0 ∷ 20 ∷ 20 ∷ 1 ∷ 1 ∷ 0 ∷ 0 ∷ 0 ∷ 0 ∷ 1 ∷ 1 ∷ 1 ∷ 0 ∷ 17 ∷ 18 ∷ 0 ∷ 9 ∷ 10 ∷ 0 ∷ 1 ∷ 14 ∷ 15 ∷ 0 ∷ 0 ∷ 0 ∷ 0 ∷ 16 ∷ 19 ∷ 0 ∷ 1 ∷ 0 ∷ 0 ∷ 0 ∷ 0 ∷ 0 ∷ 0 ∷ 0 ∷ 0 ∷ 2 ∷ 17 ∷ 18 ∷ 0 ∷ 1 ∷ 14 ∷ 15 ∷ 0 ∷ 0 ∷ 0 ∷ 0 ∷ 0 ∷ 0 ∷ 0 ∷ 0 ∷ 0 ∷ 0 ∷ 0 ∷ 0 ∷ 0 ∷ 0 ∷ 0 ∷ 0 ∷ 0 ∷ 0 ∷ 0 ∷ 1 ∷ 0 ∷ 0 ∷ 9 ∷ 10 ∷ 6 ∷ 7 ∷ [])
    -- `%type<t>s 't'%%s:'t';`, kind 4
    ∷ row 4 (37 ∷ 116 ∷ 121 ∷ 112 ∷ 101 ∷ 60 ∷ 116 ∷ 62 ∷ 115 ∷ 32 ∷ 39 ∷ 116 ∷ 39 ∷ 37 ∷ 37 ∷ 115 ∷ 58 ∷ 39 ∷ 116 ∷ 39 ∷ 59 ∷ []) (0 ∷ 21 ∷ 21 ∷ 1 ∷ 0 ∷ 0 ∷ 0 ∷ 0 ∷ 0 ∷ 1 ∷ 1 ∷ 1 ∷ 0 ∷ 18 ∷ 19 ∷ 0 ∷ 15 ∷ 16 ∷ 0 ∷ 0 ∷ 0 ∷ 0 ∷ 17 ∷ 20 ∷ 0 ∷ 1 ∷ 0 ∷ 0 ∷ 0 ∷ 0 ∷ 0 ∷ 0 ∷ 0 ∷ 0 ∷ 2 ∷ 18 ∷ 19 ∷ 0 ∷ 1 ∷ 15 ∷ 16 ∷ 0 ∷ 0 ∷ 0 ∷ 0 ∷ 0 ∷ 0 ∷ 0 ∷ 0 ∷ 0 ∷ 0 ∷ 0 ∷ 0 ∷ 0 ∷ 0 ∷ 0 ∷ 0 ∷ 0 ∷ 0 ∷ 0 ∷ 2 ∷ 0 ∷ 0 ∷ 8 ∷ 9 ∷ 6 ∷ 7 ∷ 11 ∷ 12 ∷ 6 ∷ 7 ∷ [])
    -- `%{%}%%s:;`, kind 4
    ∷ row 4 (37 ∷ 123 ∷ 37 ∷ 125 ∷ 37 ∷ 37 ∷ 115 ∷ 58 ∷ 59 ∷ []) (0 ∷ 9 ∷ 9 ∷ 0 ∷ 0 ∷ 0 ∷ 0 ∷ 0 ∷ 0 ∷ 1 ∷ 1 ∷ 0 ∷ 0 ∷ 6 ∷ 7 ∷ 0 ∷ 0 ∷ 0 ∷ 0 ∷ 8 ∷ 8 ∷ 0 ∷ 0 ∷ 0 ∷ 0 ∷ 0 ∷ 0 ∷ 0 ∷ 0 ∷ 0 ∷ 0 ∷ 1 ∷ 6 ∷ 7 ∷ 0 ∷ 0 ∷ 0 ∷ 0 ∷ 0 ∷ 0 ∷ 0 ∷ 0 ∷ 0 ∷ 0 ∷ 0 ∷ 0 ∷ 0 ∷ 0 ∷ 0 ∷ 0 ∷ 0 ∷ 0 ∷ 0 ∷ 0 ∷ 0 ∷ 1 ∷ 1 ∷ 2 ∷ 2 ∷ [])
    -- `%union{{}}%%s:;`, kind 4
    ∷ row 4 (37 ∷ 117 ∷ 110 ∷ 105 ∷ 111 ∷ 110 ∷ 123 ∷ 123 ∷ 125 ∷ 125 ∷ 37 ∷ 37 ∷ 115 ∷ 58 ∷ 59 ∷ []) (0 ∷ 15 ∷ 15 ∷ 0 ∷ 0 ∷ 0 ∷ 0 ∷ 0 ∷ 0 ∷ 1 ∷ 1 ∷ 0 ∷ 0 ∷ 12 ∷ 13 ∷ 0 ∷ 0 ∷ 0 ∷ 0 ∷ 14 ∷ 14 ∷ 0 ∷ 0 ∷ 0 ∷ 0 ∷ 0 ∷ 0 ∷ 0 ∷ 0 ∷ 0 ∷ 0 ∷ 1 ∷ 12 ∷ 13 ∷ 0 ∷ 0 ∷ 0 ∷ 0 ∷ 0 ∷ 0 ∷ 0 ∷ 0 ∷ 0 ∷ 0 ∷ 0 ∷ 0 ∷ 0 ∷ 0 ∷ 0 ∷ 0 ∷ 0 ∷ 0 ∷ 0 ∷ 0 ∷ 0 ∷ 1 ∷ 2 ∷ 7 ∷ 9 ∷ [])
    -- with repeats only tables 15 to 17 hold the full reading
    -- `%left<t>'a' 'a'\n%%s:;`, kind 4
    ∷ row 4 (37 ∷ 108 ∷ 101 ∷ 102 ∷ 116 ∷ 60 ∷ 116 ∷ 62 ∷ 39 ∷ 97 ∷ 39 ∷ 32 ∷ 39 ∷ 97 ∷ 39 ∷ 10 ∷ 37 ∷ 37 ∷ 115 ∷ 58 ∷ 59 ∷ []) (20 ∷ 9 ∷ 10 ∷ 0 ∷ 1 ∷ 0 ∷ 0 ∷ 0 ∷ 0 ∷ 1 ∷ 1 ∷ 0 ∷ 1 ∷ 9 ∷ 10 ∷ 0 ∷ 1 ∷ 18 ∷ 19 ∷ 0 ∷ 0 ∷ 0 ∷ 0 ∷ 20 ∷ 20 ∷ 0 ∷ 0 ∷ 0 ∷ 0 ∷ 0 ∷ 0 ∷ 0 ∷ 0 ∷ 0 ∷ 0 ∷ 20 ∷ 9 ∷ 10 ∷ 13 ∷ 14 ∷ 1 ∷ 18 ∷ 19 ∷ 0 ∷ 0 ∷ 0 ∷ 0 ∷ 0 ∷ 0 ∷ 0 ∷ 0 ∷ 0 ∷ 0 ∷ 0 ∷ 0 ∷ 0 ∷ 0 ∷ 0 ∷ 0 ∷ 0 ∷ 0 ∷ 0 ∷ 2 ∷ 0 ∷ 0 ∷ 9 ∷ 10 ∷ 6 ∷ 7 ∷ 13 ∷ 14 ∷ 6 ∷ 7 ∷ [])
    -- `/*\n/*/%%s:;`, kind 4
    ∷ row 4 (47 ∷ 42 ∷ 10 ∷ 47 ∷ 42 ∷ 47 ∷ 37 ∷ 37 ∷ 115 ∷ 58 ∷ 59 ∷ []) (0 ∷ 11 ∷ 11 ∷ 0 ∷ 0 ∷ 0 ∷ 0 ∷ 0 ∷ 0 ∷ 1 ∷ 1 ∷ 0 ∷ 0 ∷ 8 ∷ 9 ∷ 0 ∷ 0 ∷ 0 ∷ 0 ∷ 10 ∷ 10 ∷ 0 ∷ 0 ∷ 0 ∷ 0 ∷ 0 ∷ 0 ∷ 0 ∷ 0 ∷ 0 ∷ 0 ∷ 1 ∷ 8 ∷ 9 ∷ 0 ∷ 0 ∷ 0 ∷ 0 ∷ 0 ∷ 0 ∷ 0 ∷ 0 ∷ 0 ∷ 0 ∷ 0 ∷ 0 ∷ 0 ∷ 0 ∷ 0 ∷ 0 ∷ 0 ∷ 0 ∷ 0 ∷ 0 ∷ 0 ∷ 0 ∷ [])
    -- after the others they are zero
    -- `%token<t`, kind 4
    ∷ row 4 (37 ∷ 116 ∷ 111 ∷ 107 ∷ 101 ∷ 110 ∷ 60 ∷ 116 ∷ []) (50 ∷ 6 ∷ 6 ∷ 0 ∷ 0 ∷ 0 ∷ 0 ∷ 0 ∷ 0 ∷ 0 ∷ 0 ∷ 0 ∷ 0 ∷ 0 ∷ 0 ∷ 0 ∷ 0 ∷ 0 ∷ 0 ∷ 0 ∷ 0 ∷ 0 ∷ 0 ∷ 0 ∷ 0 ∷ 0 ∷ 0 ∷ 0 ∷ 0 ∷ 0 ∷ 0 ∷ 0 ∷ 0 ∷ 0 ∷ 0 ∷ 0 ∷ 0 ∷ 0 ∷ [])
    -- `%token <t\r>A`, kind 4
    ∷ row 4 (37 ∷ 116 ∷ 111 ∷ 107 ∷ 101 ∷ 110 ∷ 32 ∷ 60 ∷ 116 ∷ 13 ∷ 62 ∷ 65 ∷ []) (50 ∷ 7 ∷ 7 ∷ 0 ∷ 0 ∷ 0 ∷ 0 ∷ 0 ∷ 0 ∷ 0 ∷ 0 ∷ 0 ∷ 0 ∷ 0 ∷ 0 ∷ 0 ∷ 0 ∷ 0 ∷ 0 ∷ 0 ∷ 0 ∷ 0 ∷ 0 ∷ 0 ∷ 0 ∷ 0 ∷ 0 ∷ 0 ∷ 0 ∷ 0 ∷ 0 ∷ 0 ∷ 0 ∷ 0 ∷ 0 ∷ 0 ∷ 0 ∷ 0 ∷ [])
    -- `%type`, kind 4
    ∷ row 4 (37 ∷ 116 ∷ 121 ∷ 112 ∷ 101 ∷ []) (50 ∷ 5 ∷ 5 ∷ 0 ∷ 0 ∷ 0 ∷ 0 ∷ 0 ∷ 0 ∷ 0 ∷ 0 ∷ 0 ∷ 0 ∷ 0 ∷ 0 ∷ 0 ∷ 0 ∷ 0 ∷ 0 ∷ 0 ∷ 0 ∷ 0 ∷ 0 ∷ 0 ∷ 0 ∷ 0 ∷ 0 ∷ 0 ∷ 0 ∷ 0 ∷ 0 ∷ 0 ∷ 0 ∷ 0 ∷ 0 ∷ 0 ∷ 0 ∷ 0 ∷ [])
    -- `%type `, kind 4
    ∷ row 4 (37 ∷ 116 ∷ 121 ∷ 112 ∷ 101 ∷ 32 ∷ []) (50 ∷ 6 ∷ 6 ∷ 0 ∷ 0 ∷ 0 ∷ 0 ∷ 0 ∷ 0 ∷ 0 ∷ 0 ∷ 0 ∷ 0 ∷ 0 ∷ 0 ∷ 0 ∷ 0 ∷ 0 ∷ 0 ∷ 0 ∷ 0 ∷ 0 ∷ 0 ∷ 0 ∷ 0 ∷ 0 ∷ 0 ∷ 0 ∷ 0 ∷ 0 ∷ 0 ∷ 0 ∷ 0 ∷ 0 ∷ 0 ∷ 0 ∷ 0 ∷ 0 ∷ [])
    -- `%type s`, kind 4
    ∷ row 4 (37 ∷ 116 ∷ 121 ∷ 112 ∷ 101 ∷ 32 ∷ 115 ∷ []) (50 ∷ 6 ∷ 6 ∷ 0 ∷ 0 ∷ 0 ∷ 0 ∷ 0 ∷ 0 ∷ 0 ∷ 0 ∷ 0 ∷ 0 ∷ 0 ∷ 0 ∷ 0 ∷ 0 ∷ 0 ∷ 0 ∷ 0 ∷ 0 ∷ 0 ∷ 0 ∷ 0 ∷ 0 ∷ 0 ∷ 0 ∷ 0 ∷ 0 ∷ 0 ∷ 0 ∷ 0 ∷ 0 ∷ 0 ∷ 0 ∷ 0 ∷ 0 ∷ 0 ∷ [])
    -- `%type<t`, kind 4
    ∷ row 4 (37 ∷ 116 ∷ 121 ∷ 112 ∷ 101 ∷ 60 ∷ 116 ∷ []) (50 ∷ 5 ∷ 5 ∷ 0 ∷ 0 ∷ 0 ∷ 0 ∷ 0 ∷ 0 ∷ 0 ∷ 0 ∷ 0 ∷ 0 ∷ 0 ∷ 0 ∷ 0 ∷ 0 ∷ 0 ∷ 0 ∷ 0 ∷ 0 ∷ 0 ∷ 0 ∷ 0 ∷ 0 ∷ 0 ∷ 0 ∷ 0 ∷ 0 ∷ 0 ∷ 0 ∷ 0 ∷ 0 ∷ 0 ∷ 0 ∷ 0 ∷ 0 ∷ 0 ∷ [])
    -- `%{`, kind 4
    ∷ row 4 (37 ∷ 123 ∷ []) (51 ∷ 0 ∷ 0 ∷ 0 ∷ 0 ∷ 0 ∷ 0 ∷ 0 ∷ 0 ∷ 0 ∷ 0 ∷ 0 ∷ 0 ∷ 0 ∷ 0 ∷ 0 ∷ 0 ∷ 0 ∷ 0 ∷ 0 ∷ 0 ∷ 0 ∷ 0 ∷ 0 ∷ 0 ∷ 0 ∷ 0 ∷ 0 ∷ 0 ∷ 0 ∷ 0 ∷ 0 ∷ 0 ∷ 0 ∷ 0 ∷ 0 ∷ 0 ∷ 0 ∷ [])
    -- `%{%`, kind 4
    ∷ row 4 (37 ∷ 123 ∷ 37 ∷ []) (51 ∷ 0 ∷ 0 ∷ 0 ∷ 0 ∷ 0 ∷ 0 ∷ 0 ∷ 0 ∷ 0 ∷ 0 ∷ 0 ∷ 0 ∷ 0 ∷ 0 ∷ 0 ∷ 0 ∷ 0 ∷ 0 ∷ 0 ∷ 0 ∷ 0 ∷ 0 ∷ 0 ∷ 0 ∷ 0 ∷ 0 ∷ 0 ∷ 0 ∷ 0 ∷ 0 ∷ 0 ∷ 0 ∷ 0 ∷ 0 ∷ 0 ∷ 0 ∷ 0 ∷ [])
    -- `%union`, kind 4
    ∷ row 4 (37 ∷ 117 ∷ 110 ∷ 105 ∷ 111 ∷ 110 ∷ []) (52 ∷ 0 ∷ 0 ∷ 0 ∷ 0 ∷ 0 ∷ 0 ∷ 0 ∷ 0 ∷ 0 ∷ 0 ∷ 0 ∷ 0 ∷ 0 ∷ 0 ∷ 0 ∷ 0 ∷ 0 ∷ 0 ∷ 0 ∷ 0 ∷ 0 ∷ 0 ∷ 0 ∷ 0 ∷ 0 ∷ 0 ∷ 0 ∷ 0 ∷ 0 ∷ 0 ∷ 0 ∷ 0 ∷ 0 ∷ 0 ∷ 0 ∷ 0 ∷ 0 ∷ [])
    -- `%union{`, kind 4
    ∷ row 4 (37 ∷ 117 ∷ 110 ∷ 105 ∷ 111 ∷ 110 ∷ 123 ∷ []) (52 ∷ 0 ∷ 0 ∷ 0 ∷ 0 ∷ 0 ∷ 0 ∷ 0 ∷ 0 ∷ 0 ∷ 0 ∷ 0 ∷ 0 ∷ 0 ∷ 0 ∷ 0 ∷ 0 ∷ 0 ∷ 0 ∷ 0 ∷ 0 ∷ 0 ∷ 0 ∷ 0 ∷ 0 ∷ 0 ∷ 0 ∷ 0 ∷ 0 ∷ 0 ∷ 0 ∷ 0 ∷ 0 ∷ 0 ∷ 0 ∷ 0 ∷ 0 ∷ 0 ∷ [])
    -- `%union;`, kind 4
    ∷ row 4 (37 ∷ 117 ∷ 110 ∷ 105 ∷ 111 ∷ 110 ∷ 59 ∷ []) (52 ∷ 0 ∷ 0 ∷ 0 ∷ 0 ∷ 0 ∷ 0 ∷ 0 ∷ 0 ∷ 0 ∷ 0 ∷ 0 ∷ 0 ∷ 0 ∷ 0 ∷ 0 ∷ 0 ∷ 0 ∷ 0 ∷ 0 ∷ 0 ∷ 0 ∷ 0 ∷ 0 ∷ 0 ∷ 0 ∷ 0 ∷ 0 ∷ 0 ∷ 0 ∷ 0 ∷ 0 ∷ 0 ∷ 0 ∷ 0 ∷ 0 ∷ 0 ∷ 0 ∷ [])
    -- `%union x{}`, kind 4
    ∷ row 4 (37 ∷ 117 ∷ 110 ∷ 105 ∷ 111 ∷ 110 ∷ 32 ∷ 120 ∷ 123 ∷ 125 ∷ []) (52 ∷ 0 ∷ 0 ∷ 0 ∷ 0 ∷ 0 ∷ 0 ∷ 0 ∷ 0 ∷ 0 ∷ 0 ∷ 0 ∷ 0 ∷ 0 ∷ 0 ∷ 0 ∷ 0 ∷ 0 ∷ 0 ∷ 0 ∷ 0 ∷ 0 ∷ 0 ∷ 0 ∷ 0 ∷ 0 ∷ 0 ∷ 0 ∷ 0 ∷ 0 ∷ 0 ∷ 0 ∷ 0 ∷ 0 ∷ 0 ∷ 0 ∷ 0 ∷ 0 ∷ [])
    -- `%union\n{}`, kind 4
    ∷ row 4 (37 ∷ 117 ∷ 110 ∷ 105 ∷ 111 ∷ 110 ∷ 10 ∷ 123 ∷ 125 ∷ []) (13 ∷ 6 ∷ 6 ∷ 0 ∷ 0 ∷ 0 ∷ 0 ∷ 0 ∷ 0 ∷ 0 ∷ 0 ∷ 0 ∷ 0 ∷ 0 ∷ 0 ∷ 0 ∷ 0 ∷ 0 ∷ 0 ∷ 0 ∷ 0 ∷ 0 ∷ 0 ∷ 0 ∷ 0 ∷ 0 ∷ 0 ∷ 0 ∷ 0 ∷ 0 ∷ 0 ∷ 0 ∷ 0 ∷ 0 ∷ 0 ∷ 0 ∷ 0 ∷ 0 ∷ [])
    -- `%type\n<t>s`, kind 4
    ∷ row 4 (37 ∷ 116 ∷ 121 ∷ 112 ∷ 101 ∷ 10 ∷ 60 ∷ 116 ∷ 62 ∷ 115 ∷ []) (13 ∷ 5 ∷ 5 ∷ 0 ∷ 0 ∷ 0 ∷ 0 ∷ 0 ∷ 0 ∷ 0 ∷ 0 ∷ 0 ∷ 0 ∷ 0 ∷ 0 ∷ 0 ∷ 0 ∷ 0 ∷ 0 ∷ 0 ∷ 0 ∷ 0 ∷ 0 ∷ 0 ∷ 0 ∷ 0 ∷ 0 ∷ 0 ∷ 0 ∷ 0 ∷ 0 ∷ 0 ∷ 0 ∷ 0 ∷ 0 ∷ 0 ∷ 0 ∷ 0 ∷ [])
    -- `%token\n<t>A`, kind 4
    ∷ row 4 (37 ∷ 116 ∷ 111 ∷ 107 ∷ 101 ∷ 110 ∷ 10 ∷ 60 ∷ 116 ∷ 62 ∷ 65 ∷ []) (13 ∷ 6 ∷ 6 ∷ 0 ∷ 0 ∷ 0 ∷ 0 ∷ 0 ∷ 0 ∷ 0 ∷ 0 ∷ 0 ∷ 0 ∷ 0 ∷ 0 ∷ 0 ∷ 0 ∷ 0 ∷ 0 ∷ 0 ∷ 0 ∷ 0 ∷ 0 ∷ 0 ∷ 0 ∷ 0 ∷ 0 ∷ 0 ∷ 0 ∷ 0 ∷ 0 ∷ 0 ∷ 0 ∷ 0 ∷ 0 ∷ 0 ∷ 0 ∷ 0 ∷ [])
    -- `%token A 4294967296`, kind 4
    ∷ row 4 (37 ∷ 116 ∷ 111 ∷ 107 ∷ 101 ∷ 110 ∷ 32 ∷ 65 ∷ 32 ∷ 52 ∷ 50 ∷ 57 ∷ 52 ∷ 57 ∷ 54 ∷ 55 ∷ 50 ∷ 57 ∷ 54 ∷ []) (1 ∷ 9 ∷ 9 ∷ 0 ∷ 0 ∷ 0 ∷ 0 ∷ 0 ∷ 0 ∷ 0 ∷ 0 ∷ 0 ∷ 0 ∷ 0 ∷ 0 ∷ 0 ∷ 0 ∷ 0 ∷ 0 ∷ 0 ∷ 0 ∷ 0 ∷ 0 ∷ 0 ∷ 0 ∷ 0 ∷ 0 ∷ 0 ∷ 0 ∷ 0 ∷ 0 ∷ 0 ∷ 0 ∷ 0 ∷ 0 ∷ 0 ∷ 0 ∷ 0 ∷ [])
    -- `%token A 4294967295`, kind 4
    ∷ row 4 (37 ∷ 116 ∷ 111 ∷ 107 ∷ 101 ∷ 110 ∷ 32 ∷ 65 ∷ 32 ∷ 52 ∷ 50 ∷ 57 ∷ 52 ∷ 57 ∷ 54 ∷ 55 ∷ 50 ∷ 57 ∷ 53 ∷ []) (10 ∷ 19 ∷ 19 ∷ 0 ∷ 0 ∷ 0 ∷ 0 ∷ 0 ∷ 0 ∷ 0 ∷ 0 ∷ 0 ∷ 0 ∷ 0 ∷ 0 ∷ 0 ∷ 0 ∷ 0 ∷ 0 ∷ 0 ∷ 0 ∷ 0 ∷ 0 ∷ 0 ∷ 0 ∷ 0 ∷ 0 ∷ 0 ∷ 0 ∷ 0 ∷ 0 ∷ 0 ∷ 0 ∷ 0 ∷ 0 ∷ 0 ∷ 0 ∷ 0 ∷ [])
    -- `%token A 1 2`, kind 4
    ∷ row 4 (37 ∷ 116 ∷ 111 ∷ 107 ∷ 101 ∷ 110 ∷ 32 ∷ 65 ∷ 32 ∷ 49 ∷ 32 ∷ 50 ∷ []) (3 ∷ 11 ∷ 11 ∷ 0 ∷ 0 ∷ 0 ∷ 0 ∷ 0 ∷ 0 ∷ 0 ∷ 0 ∷ 0 ∷ 0 ∷ 0 ∷ 0 ∷ 0 ∷ 0 ∷ 0 ∷ 0 ∷ 0 ∷ 0 ∷ 0 ∷ 0 ∷ 0 ∷ 0 ∷ 0 ∷ 0 ∷ 0 ∷ 0 ∷ 0 ∷ 0 ∷ 0 ∷ 0 ∷ 0 ∷ 0 ∷ 0 ∷ 0 ∷ 0 ∷ [])
    -- `%token 1`, kind 4
    ∷ row 4 (37 ∷ 116 ∷ 111 ∷ 107 ∷ 101 ∷ 110 ∷ 32 ∷ 49 ∷ []) (3 ∷ 7 ∷ 7 ∷ 0 ∷ 0 ∷ 0 ∷ 0 ∷ 0 ∷ 0 ∷ 0 ∷ 0 ∷ 0 ∷ 0 ∷ 0 ∷ 0 ∷ 0 ∷ 0 ∷ 0 ∷ 0 ∷ 0 ∷ 0 ∷ 0 ∷ 0 ∷ 0 ∷ 0 ∷ 0 ∷ 0 ∷ 0 ∷ 0 ∷ 0 ∷ 0 ∷ 0 ∷ 0 ∷ 0 ∷ 0 ∷ 0 ∷ 0 ∷ 0 ∷ [])
    -- `%token A-1`, kind 4
    ∷ row 4 (37 ∷ 116 ∷ 111 ∷ 107 ∷ 101 ∷ 110 ∷ 32 ∷ 65 ∷ 45 ∷ 49 ∷ []) (3 ∷ 8 ∷ 8 ∷ 0 ∷ 0 ∷ 0 ∷ 0 ∷ 0 ∷ 0 ∷ 0 ∷ 0 ∷ 0 ∷ 0 ∷ 0 ∷ 0 ∷ 0 ∷ 0 ∷ 0 ∷ 0 ∷ 0 ∷ 0 ∷ 0 ∷ 0 ∷ 0 ∷ 0 ∷ 0 ∷ 0 ∷ 0 ∷ 0 ∷ 0 ∷ 0 ∷ 0 ∷ 0 ∷ 0 ∷ 0 ∷ 0 ∷ 0 ∷ 0 ∷ [])
    -- `%left<t>\n'a'`, kind 4
    ∷ row 4 (37 ∷ 108 ∷ 101 ∷ 102 ∷ 116 ∷ 60 ∷ 116 ∷ 62 ∷ 10 ∷ 39 ∷ 97 ∷ 39 ∷ []) (12 ∷ 9 ∷ 9 ∷ 0 ∷ 0 ∷ 0 ∷ 0 ∷ 0 ∷ 0 ∷ 0 ∷ 0 ∷ 0 ∷ 0 ∷ 0 ∷ 0 ∷ 0 ∷ 0 ∷ 0 ∷ 0 ∷ 0 ∷ 0 ∷ 0 ∷ 0 ∷ 0 ∷ 0 ∷ 0 ∷ 0 ∷ 0 ∷ 0 ∷ 0 ∷ 0 ∷ 0 ∷ 0 ∷ 0 ∷ 0 ∷ 0 ∷ 0 ∷ 0 ∷ [])
    -- `%left'a'\n9`, kind 4
    ∷ row 4 (37 ∷ 108 ∷ 101 ∷ 102 ∷ 116 ∷ 39 ∷ 97 ∷ 39 ∷ 10 ∷ 57 ∷ []) (12 ∷ 9 ∷ 9 ∷ 0 ∷ 0 ∷ 0 ∷ 0 ∷ 0 ∷ 0 ∷ 0 ∷ 0 ∷ 0 ∷ 0 ∷ 0 ∷ 0 ∷ 0 ∷ 0 ∷ 0 ∷ 0 ∷ 0 ∷ 0 ∷ 0 ∷ 0 ∷ 0 ∷ 0 ∷ 0 ∷ 0 ∷ 0 ∷ 0 ∷ 0 ∷ 0 ∷ 0 ∷ 0 ∷ 0 ∷ 0 ∷ 0 ∷ 0 ∷ 0 ∷ [])
    -- `%type<t>s 1`, kind 4
    ∷ row 4 (37 ∷ 116 ∷ 121 ∷ 112 ∷ 101 ∷ 60 ∷ 116 ∷ 62 ∷ 115 ∷ 32 ∷ 49 ∷ []) (15 ∷ 10 ∷ 10 ∷ 0 ∷ 0 ∷ 0 ∷ 0 ∷ 0 ∷ 0 ∷ 0 ∷ 0 ∷ 0 ∷ 0 ∷ 0 ∷ 0 ∷ 0 ∷ 0 ∷ 0 ∷ 0 ∷ 0 ∷ 0 ∷ 0 ∷ 0 ∷ 0 ∷ 0 ∷ 0 ∷ 0 ∷ 0 ∷ 0 ∷ 0 ∷ 0 ∷ 0 ∷ 0 ∷ 0 ∷ 0 ∷ 0 ∷ 0 ∷ 0 ∷ [])
    -- `%type<t>s<u>t`, kind 4
    ∷ row 4 (37 ∷ 116 ∷ 121 ∷ 112 ∷ 101 ∷ 60 ∷ 116 ∷ 62 ∷ 115 ∷ 60 ∷ 117 ∷ 62 ∷ 116 ∷ []) (15 ∷ 9 ∷ 9 ∷ 0 ∷ 0 ∷ 0 ∷ 0 ∷ 0 ∷ 0 ∷ 0 ∷ 0 ∷ 0 ∷ 0 ∷ 0 ∷ 0 ∷ 0 ∷ 0 ∷ 0 ∷ 0 ∷ 0 ∷ 0 ∷ 0 ∷ 0 ∷ 0 ∷ 0 ∷ 0 ∷ 0 ∷ 0 ∷ 0 ∷ 0 ∷ 0 ∷ 0 ∷ 0 ∷ 0 ∷ 0 ∷ 0 ∷ 0 ∷ 0 ∷ [])
    -- `%token<t>A<u>B`, kind 4
    ∷ row 4 (37 ∷ 116 ∷ 111 ∷ 107 ∷ 101 ∷ 110 ∷ 60 ∷ 116 ∷ 62 ∷ 65 ∷ 60 ∷ 117 ∷ 62 ∷ 66 ∷ []) (3 ∷ 10 ∷ 10 ∷ 0 ∷ 0 ∷ 0 ∷ 0 ∷ 0 ∷ 0 ∷ 0 ∷ 0 ∷ 0 ∷ 0 ∷ 0 ∷ 0 ∷ 0 ∷ 0 ∷ 0 ∷ 0 ∷ 0 ∷ 0 ∷ 0 ∷ 0 ∷ 0 ∷ 0 ∷ 0 ∷ 0 ∷ 0 ∷ 0 ∷ 0 ∷ 0 ∷ 0 ∷ 0 ∷ 0 ∷ 0 ∷ 0 ∷ 0 ∷ 0 ∷ [])
    -- `%%/*\n/s:;`, kind 4
    ∷ row 4 (37 ∷ 37 ∷ 47 ∷ 42 ∷ 10 ∷ 47 ∷ 115 ∷ 58 ∷ 59 ∷ []) (5 ∷ 2 ∷ 2 ∷ 0 ∷ 0 ∷ 0 ∷ 0 ∷ 0 ∷ 0 ∷ 0 ∷ 0 ∷ 0 ∷ 0 ∷ 0 ∷ 0 ∷ 0 ∷ 0 ∷ 0 ∷ 0 ∷ 0 ∷ 0 ∷ 0 ∷ 0 ∷ 0 ∷ 0 ∷ 0 ∷ 0 ∷ 0 ∷ 0 ∷ 0 ∷ 0 ∷ 0 ∷ 0 ∷ 0 ∷ 0 ∷ 0 ∷ 0 ∷ 0 ∷ [])
    -- those of kind 4 are none of the others
    -- `/*\n/*/%%s:;`, kind 1
    ∷ row 1 (47 ∷ 42 ∷ 10 ∷ 47 ∷ 42 ∷ 47 ∷ 37 ∷ 37 ∷ 115 ∷ 58 ∷ 59 ∷ []) (12 ∷ 4 ∷ 4 ∷ 0 ∷ 0 ∷ 0 ∷ 0 ∷ 0 ∷ 0 ∷ 0 ∷ 0 ∷ 0 ∷ 0 ∷ 0 ∷ 0 ∷ 0 ∷ 0 ∷ 0 ∷ 0 ∷ 0 ∷ 0 ∷ 0 ∷ 0 ∷ 0 ∷ 0 ∷ 0 ∷ 0 ∷ 0 ∷ 0 ∷ 0 ∷ 0 ∷ 0 ∷ 0 ∷ 0 ∷ 0 ∷ 0 ∷ 0 ∷ 0 ∷ [])
    -- `%union`, kind 1
    ∷ row 1 (37 ∷ 117 ∷ 110 ∷ 105 ∷ 111 ∷ 110 ∷ []) (12 ∷ 0 ∷ 0 ∷ 0 ∷ 0 ∷ 0 ∷ 0 ∷ 0 ∷ 0 ∷ 0 ∷ 0 ∷ 0 ∷ 0 ∷ 0 ∷ 0 ∷ 0 ∷ 0 ∷ 0 ∷ 0 ∷ 0 ∷ 0 ∷ 0 ∷ 0 ∷ 0 ∷ 0 ∷ 0 ∷ 0 ∷ 0 ∷ 0 ∷ 0 ∷ 0 ∷ 0 ∷ 0 ∷ 0 ∷ 0 ∷ 0 ∷ 0 ∷ 0 ∷ [])
    -- `%type`, kind 2
    ∷ row 2 (37 ∷ 116 ∷ 121 ∷ 112 ∷ 101 ∷ []) (12 ∷ 0 ∷ 0 ∷ 0 ∷ 0 ∷ 0 ∷ 0 ∷ 0 ∷ 0 ∷ 0 ∷ 0 ∷ 0 ∷ 0 ∷ 0 ∷ 0 ∷ 0 ∷ 0 ∷ 0 ∷ 0 ∷ 0 ∷ 0 ∷ 0 ∷ 0 ∷ 0 ∷ 0 ∷ 0 ∷ 0 ∷ 0 ∷ 0 ∷ 0 ∷ 0 ∷ 0 ∷ 0 ∷ 0 ∷ 0 ∷ 0 ∷ 0 ∷ 0 ∷ [])
    -- `%{`, kind 3
    ∷ row 3 (37 ∷ 123 ∷ []) (12 ∷ 0 ∷ 0 ∷ 0 ∷ 0 ∷ 0 ∷ 0 ∷ 0 ∷ 0 ∷ 0 ∷ 0 ∷ 0 ∷ 0 ∷ 0 ∷ 0 ∷ 0 ∷ 0 ∷ 0 ∷ 0 ∷ 0 ∷ 0 ∷ 0 ∷ 0 ∷ 0 ∷ 0 ∷ 0 ∷ 0 ∷ 0 ∷ 0 ∷ 0 ∷ 0 ∷ 0 ∷ 0 ∷ 0 ∷ 0 ∷ 0 ∷ 0 ∷ 0 ∷ [])
    ∷ []

pub table_holds : all (λ x. numbers (read_all x.src x.kind lent slots)) table ≡ true
unfolding is_white all same row table filled rows_of_ten numbers read_all read_names filled_rows row_for named_row attempted sizes_fit size_test is_power halved admitted sections_all rest_all ended_at repeat_of of_number check check_at decl_all decl_run decl_turn decl_step seen_at first_of starts_at begins turns gap_at gap_of spacing spacing_at is_blank is_eol lines_here past_gap push_row list_repeat enter_step once_step add_row room same_part has_name first_row find_name enter_token next_level name_at named word_at token_at bare quoted_at closed is_quote is_at in_class is_letter is_digit run_end run_end_at int_at counted decimal decimal_at string_at string_from string line_end_at single single_from colon_text colon_text_at braced braced_from acted action_at start_decl start_named expect_decl expect_given actiontype_decl actiontype_named param_typed param_decl generics_decl list_decl list_body percent_list list_turn ends token_item spelled_at unused_item unused_row type_item type_row lead_tag tag_at tag_closed tag_row number_behind behind_word marked_from marked prologue_decl union_decl union_body body_row prec_decl prec_body prec_list prec_turn prec_item avoid_decl avoid_list avoid_turn avoid_item avoid_named epp_decl epp_value epp_text epp_given push_production lead_of follow follow_at begun decode decode_at passed passed_at kept moved trim_turn trimmed first_mark sort_at token_symbol quoted_rows quoted_item prec_name item-precItem may_end after_action action_item may_follow empty_item symbol_kind bare_item end_production bar_item end_item item_step item_turn item_list pass_mark first_start colon_type arrow_type rule_type enter_rule named_head rule_head rule_body rule_step next_rule rules_turn rules_run rules_all programs_from
table_holds = refl

-- A source, a kind, and a table without room for a row, by its index.
pub record Crowd : Type 0 where
  pub kind : ℕ
  pub without : ℕ
  pub src : List ℕ

unfoldable pub full : ℕ → ℕ → List ℕ → List ℕ → Case Crowd
full kind k src gives = record { input = record { kind = kind; without = k; src = src }; gives = gives }

-- "42 no room: first place of the row that didn't fit, for 10 its repeated one, and table number"
unfoldable pub rooms : List (Case Crowd)
rooms =
    -- `%token AB%%s:;`, kind 1, no room in table 1
    full 1 0 (37 ∷ 116 ∷ 111 ∷ 107 ∷ 101 ∷ 110 ∷ 32 ∷ 65 ∷ 66 ∷ 37 ∷ 37 ∷ 115 ∷ 58 ∷ 59 ∷ []) (42 ∷ 7 ∷ 9 ∷ 1 ∷ [])
    -- `%left 'ab'\n%%s:;`, kind 1, no room in table 2
    ∷ full 1 1 (37 ∷ 108 ∷ 101 ∷ 102 ∷ 116 ∷ 32 ∷ 39 ∷ 97 ∷ 98 ∷ 39 ∷ 10 ∷ 37 ∷ 37 ∷ 115 ∷ 58 ∷ 59 ∷ []) (42 ∷ 7 ∷ 9 ∷ 2 ∷ [])
    -- `%avoid_insert 'ab'\n%%s:;`, kind 1, no room in table 3
    ∷ full 1 2 (37 ∷ 97 ∷ 118 ∷ 111 ∷ 105 ∷ 100 ∷ 95 ∷ 105 ∷ 110 ∷ 115 ∷ 101 ∷ 114 ∷ 116 ∷ 32 ∷ 39 ∷ 97 ∷ 98 ∷ 39 ∷ 10 ∷ 37 ∷ 37 ∷ 115 ∷ 58 ∷ 59 ∷ []) (42 ∷ 15 ∷ 17 ∷ 3 ∷ [])
    -- `%implicit_tokens 'ab'\n%%s:;`, kind 3, no room in table 4
    ∷ full 3 3 (37 ∷ 105 ∷ 109 ∷ 112 ∷ 108 ∷ 105 ∷ 99 ∷ 105 ∷ 116 ∷ 95 ∷ 116 ∷ 111 ∷ 107 ∷ 101 ∷ 110 ∷ 115 ∷ 32 ∷ 39 ∷ 97 ∷ 98 ∷ 39 ∷ 10 ∷ 37 ∷ 37 ∷ 115 ∷ 58 ∷ 59 ∷ []) (42 ∷ 18 ∷ 20 ∷ 4 ∷ [])
    -- `%token ab%epp 'ab' "cd"%%s:;`, kind 1, no room in table 5
    ∷ full 1 4 (37 ∷ 116 ∷ 111 ∷ 107 ∷ 101 ∷ 110 ∷ 32 ∷ 97 ∷ 98 ∷ 37 ∷ 101 ∷ 112 ∷ 112 ∷ 32 ∷ 39 ∷ 97 ∷ 98 ∷ 39 ∷ 32 ∷ 34 ∷ 99 ∷ 100 ∷ 34 ∷ 37 ∷ 37 ∷ 115 ∷ 58 ∷ 59 ∷ []) (42 ∷ 14 ∷ 18 ∷ 5 ∷ [])
    -- `%expect-unused ab%%s:;`, kind 1, no room in table 6
    ∷ full 1 5 (37 ∷ 101 ∷ 120 ∷ 112 ∷ 101 ∷ 99 ∷ 116 ∷ 45 ∷ 117 ∷ 110 ∷ 117 ∷ 115 ∷ 101 ∷ 100 ∷ 32 ∷ 97 ∷ 98 ∷ 37 ∷ 37 ∷ 115 ∷ 58 ∷ 59 ∷ []) (42 ∷ 15 ∷ 17 ∷ 6 ∷ [])
    -- `%%ab:;`, kind 1, no room in table 7
    ∷ full 1 6 (37 ∷ 37 ∷ 97 ∷ 98 ∷ 58 ∷ 59 ∷ []) (42 ∷ 2 ∷ 4 ∷ 7 ∷ [])
    -- `%%s:ab cd;`, kind 1, no room in table 8
    ∷ full 1 7 (37 ∷ 37 ∷ 115 ∷ 58 ∷ 97 ∷ 98 ∷ 32 ∷ 99 ∷ 100 ∷ 59 ∷ []) (42 ∷ 4 ∷ 9 ∷ 8 ∷ [])
    -- `%%s:ab;`, kind 1, no room in table 9
    ∷ full 1 8 (37 ∷ 37 ∷ 115 ∷ 58 ∷ 97 ∷ 98 ∷ 59 ∷ []) (42 ∷ 4 ∷ 6 ∷ 9 ∷ [])
    -- `%start ab%start cd%%ab:;`, kind 1, no room in table 10
    ∷ full 1 9 (37 ∷ 115 ∷ 116 ∷ 97 ∷ 114 ∷ 116 ∷ 32 ∷ 97 ∷ 98 ∷ 37 ∷ 115 ∷ 116 ∷ 97 ∷ 114 ∷ 116 ∷ 32 ∷ 99 ∷ 100 ∷ 37 ∷ 37 ∷ 97 ∷ 98 ∷ 58 ∷ 59 ∷ []) (42 ∷ 16 ∷ 18 ∷ 10 ∷ [])
    -- `%%s:'ab';`, kind 1, no room in table 1
    ∷ full 1 0 (37 ∷ 37 ∷ 115 ∷ 58 ∷ 39 ∷ 97 ∷ 98 ∷ 39 ∷ 59 ∷ []) (42 ∷ 5 ∷ 7 ∷ 1 ∷ [])
    -- `%left 'ab'\n%left 'ab'\n%%s:;`, kind 1, no room in table 10
    ∷ full 1 9 (37 ∷ 108 ∷ 101 ∷ 102 ∷ 116 ∷ 32 ∷ 39 ∷ 97 ∷ 98 ∷ 39 ∷ 10 ∷ 37 ∷ 108 ∷ 101 ∷ 102 ∷ 116 ∷ 32 ∷ 39 ∷ 97 ∷ 98 ∷ 39 ∷ 10 ∷ 37 ∷ 37 ∷ 115 ∷ 58 ∷ 59 ∷ []) (42 ∷ 18 ∷ 20 ∷ 10 ∷ [])
    -- `%token ab%epp 'ab' 'x'%epp ab 'y'%%s:;`, kind 1, no room in table 10
    ∷ full 1 9 (37 ∷ 116 ∷ 111 ∷ 107 ∷ 101 ∷ 110 ∷ 32 ∷ 97 ∷ 98 ∷ 37 ∷ 101 ∷ 112 ∷ 112 ∷ 32 ∷ 39 ∷ 97 ∷ 98 ∷ 39 ∷ 32 ∷ 39 ∷ 120 ∷ 39 ∷ 37 ∷ 101 ∷ 112 ∷ 112 ∷ 32 ∷ 97 ∷ 98 ∷ 32 ∷ 39 ∷ 121 ∷ 39 ∷ 37 ∷ 37 ∷ 115 ∷ 58 ∷ 59 ∷ []) (42 ∷ 27 ∷ 29 ∷ 10 ∷ [])
    -- `%token<t>AB%%s:;`, kind 4, no room in table 15
    ∷ full 4 10 (37 ∷ 116 ∷ 111 ∷ 107 ∷ 101 ∷ 110 ∷ 60 ∷ 116 ∷ 62 ∷ 65 ∷ 66 ∷ 37 ∷ 37 ∷ 115 ∷ 58 ∷ 59 ∷ []) (42 ∷ 9 ∷ 11 ∷ 15 ∷ [])
    -- `%token AB 1%%s:;`, kind 4, no room in table 16
    ∷ full 4 11 (37 ∷ 116 ∷ 111 ∷ 107 ∷ 101 ∷ 110 ∷ 32 ∷ 65 ∷ 66 ∷ 32 ∷ 49 ∷ 37 ∷ 37 ∷ 115 ∷ 58 ∷ 59 ∷ []) (42 ∷ 7 ∷ 9 ∷ 16 ∷ [])
    -- `%{x%}%%s:;`, kind 4, no room in table 17
    ∷ full 4 12 (37 ∷ 123 ∷ 120 ∷ 37 ∷ 125 ∷ 37 ∷ 37 ∷ 115 ∷ 58 ∷ 59 ∷ []) (42 ∷ 2 ∷ 3 ∷ 17 ∷ [])
    ∷ []

pub rooms_hold : all (λ x. verdict_numbers (read_all x.src x.kind (set_tab lent x.without []) slots).answer) rooms ≡ true
unfolding full rooms is_white all same read_all read_names filled_rows row_for named_row attempted sizes_fit size_test is_power halved admitted sections_all rest_all ended_at repeat_of of_number check check_at decl_all decl_run decl_turn decl_step seen_at first_of starts_at begins turns gap_at gap_of spacing spacing_at is_blank is_eol lines_here past_gap push_row list_repeat enter_step once_step add_row room same_part has_name first_row find_name enter_token next_level name_at named word_at token_at bare quoted_at closed is_quote is_at in_class is_letter is_digit run_end run_end_at int_at counted decimal decimal_at string_at string_from string line_end_at single single_from colon_text colon_text_at braced braced_from acted action_at start_decl start_named expect_decl expect_given actiontype_decl actiontype_named param_typed param_decl generics_decl list_decl list_body percent_list list_turn ends token_item spelled_at unused_item unused_row type_item type_row lead_tag tag_at tag_closed tag_row number_behind behind_word marked_from marked prologue_decl union_decl union_body body_row prec_decl prec_body prec_list prec_turn prec_item avoid_decl avoid_list avoid_turn avoid_item avoid_named epp_decl epp_value epp_text epp_given push_production lead_of follow follow_at begun decode decode_at passed passed_at kept moved trim_turn trimmed first_mark sort_at token_symbol quoted_rows quoted_item prec_name item-precItem may_end after_action action_item may_follow empty_item symbol_kind bare_item end_production bar_item end_item item_step item_turn item_list pass_mark first_start colon_type arrow_type rule_type enter_rule named_head rule_head rule_body rule_step next_rule rules_turn rules_run rules_all programs_from
rooms_hold = refl

-- a kind, a source, and how many slots each index has
pub record Lent : Type 0 where
  pub kind : ℕ
  pub src : List ℕ
  pub first : ℕ
  pub seventh : ℕ

unfoldable pub lend : ℕ → List ℕ → ℕ → ℕ → List ℕ → Case Lent
lend kind src first seventh gives = record { input = record { kind = kind; src = src; first = first; seventh = seventh }; gives = gives }

-- "45, index not a power of two or below twice the rows its table has room for", "tested after 43": table 1 has room for 13 rows, table 7 for 7
unfoldable pub sizes : List (Case Lent)
sizes =
    lend 1 (37 ∷ 37 ∷ []) 32 16 (0 ∷ 2 ∷ 2 ∷ 0 ∷ [])
    ∷ lend 1 (37 ∷ 37 ∷ []) 64 32 (0 ∷ 2 ∷ 2 ∷ 0 ∷ [])
    ∷ lend 1 (37 ∷ 37 ∷ []) 16 16 (45 ∷ 0 ∷ 0 ∷ 0 ∷ [])
    ∷ lend 1 (37 ∷ 37 ∷ []) 32 8 (45 ∷ 0 ∷ 0 ∷ 0 ∷ [])
    ∷ lend 1 (37 ∷ 37 ∷ []) 0 16 (45 ∷ 0 ∷ 0 ∷ 0 ∷ [])
    ∷ lend 1 (37 ∷ 37 ∷ []) 33 16 (45 ∷ 0 ∷ 0 ∷ 0 ∷ [])
    ∷ lend 1 (37 ∷ 37 ∷ []) 48 16 (45 ∷ 0 ∷ 0 ∷ 0 ∷ [])
    -- a kind that is none comes first
    ∷ lend 5 (37 ∷ 37 ∷ []) 0 0 (43 ∷ 0 ∷ 0 ∷ 0 ∷ [])
    -- a byte that begins no character comes later
    ∷ lend 1 (255 ∷ []) 0 0 (45 ∷ 0 ∷ 0 ∷ 0 ∷ [])
    ∷ []

pub sizes_hold : all (λ x. verdict_numbers (read_all x.src x.kind lent (record { tokens = replicate x.first 7; rules = replicate x.seventh 7 })).answer) sizes ≡ true
unfolding lend sizes is_white all same read_all read_names filled_rows row_for named_row attempted sizes_fit size_test is_power halved admitted sections_all rest_all ended_at repeat_of of_number check check_at decl_all decl_run decl_turn decl_step seen_at first_of starts_at begins turns gap_at gap_of spacing spacing_at is_blank is_eol lines_here past_gap push_row list_repeat enter_step once_step add_row room same_part has_name first_row find_name enter_token next_level name_at named word_at token_at bare quoted_at closed is_quote is_at in_class is_letter is_digit run_end run_end_at int_at counted decimal decimal_at string_at string_from string line_end_at single single_from colon_text colon_text_at braced braced_from acted action_at start_decl start_named expect_decl expect_given actiontype_decl actiontype_named param_typed param_decl generics_decl list_decl list_body percent_list list_turn ends token_item spelled_at unused_item unused_row type_item type_row lead_tag tag_at tag_closed tag_row number_behind behind_word marked_from marked prologue_decl union_decl union_body body_row prec_decl prec_body prec_list prec_turn prec_item avoid_decl avoid_list avoid_turn avoid_item avoid_named epp_decl epp_value epp_text epp_given push_production lead_of follow follow_at begun decode decode_at passed passed_at kept moved trim_turn trimmed first_mark sort_at token_symbol quoted_rows quoted_item prec_name item-precItem may_end after_action action_item may_follow empty_item symbol_kind bare_item end_production bar_item end_item item_step item_turn item_list pass_mark first_start colon_type arrow_type rule_type enter_rule named_head rule_head rule_body rule_step next_rule rules_turn rules_run rules_all programs_from
sizes_hold = refl
