-- Document 01, "Small inputs": "P is proved". Load, and read and validation that it is made of, as one table under one statement; each expected row is the crate's.
use Rattle.std.specs.Prelude.{ℕ, ◌≡◌, refl, Bool, true, false, List, [], ◌∷◌, ◌++◌, take, replicate, Ok, Err, Result}
use Rattle.scan.specs.Scan.{is_at, begins, starts_at, is_letter, is_digit, is_eol, in_class, run_end, run_end_at}
use Rattle.scan.specs.Lines.{lines_here}
use Rattle.scan.specs.Loop.{turns}
use Rattle.scan.specs.Table.{Case, same, all}
use Rattle.utf8.specs.White.{is_white}
use Rattle.utf8.specs.Utf8.{lead_of, follow, follow_at, begun, decode, decode_at}
use Rattle.whole.specs.Whole.{check, check_at}
use Rattle.trim.specs.Trim.{passed, passed_at, kept, moved, trim_turn, trimmed}
use Rattle.spacing.specs.Spacing.{is_blank, spacing, spacing_at}
use Rattle.words.specs.Words.{word_at, named, name_at, is_quote, closed, quoted_at, bare, token_at}
use Rattle.words.specs.Numbers.{decimal, decimal_at, counted, int_at}
use Rattle.words.specs.Strings.{string, string_from, string_at}
use Rattle.words.specs.Tags.{tag_closed, tag_at}
use Rattle.texts.specs.Line.{line_end_at}
use Rattle.texts.specs.Colon.{single, single_from, colon_text, colon_text_at}
use Rattle.texts.specs.Action.{braced, braced_from, acted, action_at}
use Rattle.texts.specs.Mark.{marked, marked_from}
use Rattle.tables.specs.Table.{room, add_row, same_part, has_name, first_row, find_name, enter_token}
use Rattle.keywords.specs.Keywords.{first_of, seen_at}
use Rattle.grammar.specs.State.{next_level, gap_of, gap_at, push_row, list_repeat, enter_step, once_step, past_gap}
use Rattle.index.specs.Hash.{hash_from, hash_of}
use Rattle.tables.specs.Below.{below}
use Rattle.index.specs.Index.{fresh_name, next_slot, free_slot, enter_row, entries, stands, row_stands, filled as index-filled, index_test, halved, is_power, size_test}
use Rattle.symbols.specs.Symbols.{named_row, row_for, filled_rows, knows_test}
use Rattle.grammar.specs.Sound.{AllTables, ten_of, Indexes}
use Rattle.settings.specs.Settings.{start_named, start_decl, expect_given, expect_decl, actiontype_named, actiontype_decl, param_typed, param_decl, generics_decl}
use Rattle.marks.specs.Marks.{lead_tag, tag_row, number_behind, behind_word}
use Rattle.lists.specs.Lists.{token_item, spelled_at, unused_row, unused_item, type_row, type_item, ends, list_turn, percent_list, list_body, list_decl}
use Rattle.lines.specs.Precedences.{prec_item, prec_turn, prec_list, prec_body, prec_decl}
use Rattle.lines.specs.Avoided.{avoid_named, avoid_item, avoid_turn, avoid_list, avoid_decl}
use Rattle.epps.specs.Epps.{epp_given, epp_text, epp_value, epp_decl}
use Rattle.bodies.specs.Bodies.{body_row, prologue_decl, union_body, union_decl}
use Rattle.declarations.specs.Declarations.{decl_step, decl_turn, decl_run, decl_all}
use Rattle.items.specs.Items.{first_mark, sort_at, token_symbol, quoted_rows, quoted_item, prec_name, prec_item as item-precItem, may_end, after_action, action_item, may_follow, empty_item, symbol_kind, bare_item, end_production, bar_item, end_item, item_step, item_turn, item_list}
use Rattle.rules.specs.Rules.{pass_mark, first_start, colon_type, arrow_type, rule_type, enter_rule, named_head, rule_head, rule_body, rule_step, next_rule, rules_turn, rules_run, rules_all, programs_from}
use Rattle.sections.specs.Sections.{sizes_fit, admitted, rest_all, sections_all, attempted}
use Rattle.reader.specs.Read.{ReadResult, ended_at, read_names, read_all}
use Rattle.grammar.specs.declared.Refusal.{Refusal}
use Rattle.grammar.specs.Refusals.{of_number, repeat_of}
use Rattle.grammar.specs.declared.Refusal.TheVariants.{Fault, Repeated, NoRoom, TooLong, BadKind, BadIndex}
use Rattle.inputs.specs.Reads.{Input, row, filled, rows_of_ten, numbers}
use Rattle.sound.specs.Test.{zeros, zeros_from, given_test, action_test, token_test, prec_test, name_test, epp_test, kind_test, rule_test, production_test, repeat_test, table_test, before, range_test, ranges_test, singles_test, index_right, indexes_test, known_test, tables_test, sound_test}
use Rattle.productions.specs.Cells.{push_production, prec_of, production_at}
use Rattle.loading.specs.Load.{judgement_numbers, judged_read}
use Rattle.validation.specs.Faults.{validity_numbers, upto, known, name_faults, kind_faults, kinds_faults, production_faults, rule_faults, rules_faults, epp_faults, epps_faults, faults, validity}

-- tables with some rows of room, and something in them
abbrev free : List ℕ
free = replicate 39 7

abbrev lent : AllTables
lent = record { t1 = free; t2 = free; t3 = free; t4 = free; t5 = free; t6 = free; t7 = free; t8 = free; t9 = free; t10 = free; t15 = free; t16 = free; t17 = free }

-- and indexes that are large enough for them
abbrev slots : Indexes
slots = record { tokens = replicate 32 7; rules = replicate 16 7 }

-- a full reading is validated, be it refused for repeats only
abbrev full : Refusal → Bool
full (Fault c i) = false
full (Repeated what a b) = true
full (NoRoom t a b) = false
full TooLong = false
full BadKind = false
full BadIndex = false

abbrev is_full : Result ℕ Refusal → Bool
is_full (Ok i) = true
is_full (Err f) = full f

abbrev if_full : Bool → List ℕ → List ℕ
if_full true v = v
if_full false v = []

-- load's number and place; the read's, counts, rows, singles and what kind 4 has; then validate's number and place
abbrev told : List ℕ → ReadResult → List ℕ
told src o =
    take 3 (judgement_numbers (judged_read src o).answer) ++ (numbers o ++ if_full (is_full o.answer) (validity_numbers (validity src o.counts o.singles (ten_of o.tables) o.indexes)))

unfoldable pub table : List (Case Input)
table =
    -- nothing, kind 1
    row 1 ([]) (10 ∷ 0 ∷ 0 ∷ 10 ∷ 0 ∷ 0 ∷ 0 ∷ 0 ∷ 0 ∷ 0 ∷ 0 ∷ 0 ∷ 0 ∷ 0 ∷ 0 ∷ 0 ∷ 0 ∷ 0 ∷ 0 ∷ 0 ∷ 0 ∷ 0 ∷ 0 ∷ 0 ∷ 0 ∷ 0 ∷ 0 ∷ 0 ∷ 0 ∷ 0 ∷ 0 ∷ 0 ∷ 0 ∷ 0 ∷ 0 ∷ 0 ∷ 0 ∷ 0 ∷ 0 ∷ 0 ∷ 0 ∷ [])
    -- `%%`, kind 1
    ∷ row 1 (37 ∷ 37 ∷ []) (30 ∷ 0 ∷ 0 ∷ 0 ∷ 2 ∷ 2 ∷ 0 ∷ 0 ∷ 0 ∷ 0 ∷ 0 ∷ 0 ∷ 0 ∷ 0 ∷ 0 ∷ 0 ∷ 0 ∷ 0 ∷ 0 ∷ 0 ∷ 0 ∷ 0 ∷ 0 ∷ 0 ∷ 0 ∷ 0 ∷ 0 ∷ 0 ∷ 0 ∷ 0 ∷ 0 ∷ 0 ∷ 0 ∷ 0 ∷ 0 ∷ 0 ∷ 0 ∷ 0 ∷ 0 ∷ 0 ∷ 0 ∷ 30 ∷ 0 ∷ 0 ∷ [])
    -- `%%s:;`, kind 1
    ∷ row 1 (37 ∷ 37 ∷ 115 ∷ 58 ∷ 59 ∷ []) (0 ∷ 5 ∷ 5 ∷ 0 ∷ 5 ∷ 5 ∷ 0 ∷ 0 ∷ 0 ∷ 0 ∷ 0 ∷ 0 ∷ 1 ∷ 1 ∷ 0 ∷ 0 ∷ 2 ∷ 3 ∷ 0 ∷ 0 ∷ 0 ∷ 0 ∷ 4 ∷ 4 ∷ 0 ∷ 0 ∷ 0 ∷ 0 ∷ 0 ∷ 0 ∷ 0 ∷ 0 ∷ 0 ∷ 0 ∷ 1 ∷ 2 ∷ 3 ∷ 0 ∷ 0 ∷ 0 ∷ 0 ∷ 0 ∷ 0 ∷ 0 ∷ 0 ∷ 0 ∷ 0 ∷ 0 ∷ 0 ∷ 0 ∷ 0 ∷ 0 ∷ 0 ∷ 0 ∷ 0 ∷ 0 ∷ 0 ∷ 0 ∷ 0 ∷ 0 ∷ 0 ∷ 0 ∷ [])
    -- `%%s:;`, kind 2
    ∷ row 2 (37 ∷ 37 ∷ 115 ∷ 58 ∷ 59 ∷ []) (8 ∷ 3 ∷ 3 ∷ 8 ∷ 3 ∷ 3 ∷ 0 ∷ 0 ∷ 0 ∷ 0 ∷ 0 ∷ 0 ∷ 0 ∷ 0 ∷ 0 ∷ 0 ∷ 0 ∷ 0 ∷ 0 ∷ 0 ∷ 0 ∷ 0 ∷ 0 ∷ 0 ∷ 0 ∷ 0 ∷ 0 ∷ 0 ∷ 0 ∷ 0 ∷ 0 ∷ 0 ∷ 0 ∷ 0 ∷ 0 ∷ 0 ∷ 0 ∷ 0 ∷ 0 ∷ 0 ∷ 0 ∷ [])
    -- `%token_a%%s:A;`, kind 1
    ∷ row 1 (37 ∷ 116 ∷ 111 ∷ 107 ∷ 101 ∷ 110 ∷ 65 ∷ 37 ∷ 37 ∷ 115 ∷ 58 ∷ 65 ∷ 59 ∷ []) (0 ∷ 13 ∷ 13 ∷ 0 ∷ 13 ∷ 13 ∷ 1 ∷ 0 ∷ 0 ∷ 0 ∷ 0 ∷ 0 ∷ 1 ∷ 1 ∷ 1 ∷ 0 ∷ 6 ∷ 7 ∷ 1 ∷ 9 ∷ 10 ∷ 0 ∷ 0 ∷ 0 ∷ 0 ∷ 11 ∷ 12 ∷ 0 ∷ 1 ∷ 0 ∷ 0 ∷ 0 ∷ 0 ∷ 0 ∷ 0 ∷ 0 ∷ 0 ∷ 2 ∷ 11 ∷ 12 ∷ 0 ∷ 1 ∷ 9 ∷ 10 ∷ 0 ∷ 0 ∷ 0 ∷ 0 ∷ 0 ∷ 0 ∷ 0 ∷ 0 ∷ 0 ∷ 0 ∷ 0 ∷ 0 ∷ 0 ∷ 0 ∷ 0 ∷ 0 ∷ 0 ∷ 0 ∷ 0 ∷ 0 ∷ 0 ∷ 0 ∷ 0 ∷ 0 ∷ 0 ∷ [])
    -- `%left'a'`, kind 1
    ∷ row 1 (37 ∷ 108 ∷ 101 ∷ 102 ∷ 116 ∷ 39 ∷ 97 ∷ 39 ∷ []) (10 ∷ 8 ∷ 8 ∷ 10 ∷ 8 ∷ 8 ∷ 0 ∷ 0 ∷ 0 ∷ 0 ∷ 0 ∷ 0 ∷ 0 ∷ 0 ∷ 0 ∷ 0 ∷ 0 ∷ 0 ∷ 0 ∷ 0 ∷ 0 ∷ 0 ∷ 0 ∷ 0 ∷ 0 ∷ 0 ∷ 0 ∷ 0 ∷ 0 ∷ 0 ∷ 0 ∷ 0 ∷ 0 ∷ 0 ∷ 0 ∷ 0 ∷ 0 ∷ 0 ∷ 0 ∷ 0 ∷ 0 ∷ [])
    -- `%avoid_insert'a'`, kind 1
    ∷ row 1 (37 ∷ 97 ∷ 118 ∷ 111 ∷ 105 ∷ 100 ∷ 95 ∷ 105 ∷ 110 ∷ 115 ∷ 101 ∷ 114 ∷ 116 ∷ 39 ∷ 97 ∷ 39 ∷ []) (3 ∷ 16 ∷ 16 ∷ 3 ∷ 16 ∷ 16 ∷ 0 ∷ 0 ∷ 0 ∷ 0 ∷ 0 ∷ 0 ∷ 0 ∷ 0 ∷ 0 ∷ 0 ∷ 0 ∷ 0 ∷ 0 ∷ 0 ∷ 0 ∷ 0 ∷ 0 ∷ 0 ∷ 0 ∷ 0 ∷ 0 ∷ 0 ∷ 0 ∷ 0 ∷ 0 ∷ 0 ∷ 0 ∷ 0 ∷ 0 ∷ 0 ∷ 0 ∷ 0 ∷ 0 ∷ 0 ∷ 0 ∷ [])
    -- `%%/*\n/s:;`, kind 1
    ∷ row 1 (37 ∷ 37 ∷ 47 ∷ 42 ∷ 10 ∷ 47 ∷ 115 ∷ 58 ∷ 59 ∷ []) (0 ∷ 9 ∷ 9 ∷ 0 ∷ 9 ∷ 9 ∷ 0 ∷ 0 ∷ 0 ∷ 0 ∷ 0 ∷ 0 ∷ 1 ∷ 1 ∷ 0 ∷ 0 ∷ 6 ∷ 7 ∷ 0 ∷ 0 ∷ 0 ∷ 0 ∷ 8 ∷ 8 ∷ 0 ∷ 0 ∷ 0 ∷ 0 ∷ 0 ∷ 0 ∷ 0 ∷ 0 ∷ 0 ∷ 0 ∷ 1 ∷ 6 ∷ 7 ∷ 0 ∷ 0 ∷ 0 ∷ 0 ∷ 0 ∷ 0 ∷ 0 ∷ 0 ∷ 0 ∷ 0 ∷ 0 ∷ 0 ∷ 0 ∷ 0 ∷ 0 ∷ 0 ∷ 0 ∷ 0 ∷ 0 ∷ 0 ∷ 0 ∷ 0 ∷ 0 ∷ 0 ∷ 0 ∷ [])
    -- `%%/*/`, kind 1
    ∷ row 1 (37 ∷ 37 ∷ 47 ∷ 42 ∷ 47 ∷ []) (5 ∷ 2 ∷ 2 ∷ 5 ∷ 2 ∷ 2 ∷ 0 ∷ 0 ∷ 0 ∷ 0 ∷ 0 ∷ 0 ∷ 0 ∷ 0 ∷ 0 ∷ 0 ∷ 0 ∷ 0 ∷ 0 ∷ 0 ∷ 0 ∷ 0 ∷ 0 ∷ 0 ∷ 0 ∷ 0 ∷ 0 ∷ 0 ∷ 0 ∷ 0 ∷ 0 ∷ 0 ∷ 0 ∷ 0 ∷ 0 ∷ 0 ∷ 0 ∷ 0 ∷ 0 ∷ 0 ∷ 0 ∷ [])
    -- `%token\n_a`, kind 1
    ∷ row 1 (37 ∷ 116 ∷ 111 ∷ 107 ∷ 101 ∷ 110 ∷ 10 ∷ 65 ∷ []) (13 ∷ 6 ∷ 6 ∷ 13 ∷ 6 ∷ 6 ∷ 0 ∷ 0 ∷ 0 ∷ 0 ∷ 0 ∷ 0 ∷ 0 ∷ 0 ∷ 0 ∷ 0 ∷ 0 ∷ 0 ∷ 0 ∷ 0 ∷ 0 ∷ 0 ∷ 0 ∷ 0 ∷ 0 ∷ 0 ∷ 0 ∷ 0 ∷ 0 ∷ 0 ∷ 0 ∷ 0 ∷ 0 ∷ 0 ∷ 0 ∷ 0 ∷ 0 ∷ 0 ∷ 0 ∷ 0 ∷ 0 ∷ [])
    -- `%token//\n_a%%s:A;`, kind 1
    ∷ row 1 (37 ∷ 116 ∷ 111 ∷ 107 ∷ 101 ∷ 110 ∷ 47 ∷ 47 ∷ 10 ∷ 65 ∷ 37 ∷ 37 ∷ 115 ∷ 58 ∷ 65 ∷ 59 ∷ []) (0 ∷ 16 ∷ 16 ∷ 0 ∷ 16 ∷ 16 ∷ 1 ∷ 0 ∷ 0 ∷ 0 ∷ 0 ∷ 0 ∷ 1 ∷ 1 ∷ 1 ∷ 0 ∷ 9 ∷ 10 ∷ 1 ∷ 12 ∷ 13 ∷ 0 ∷ 0 ∷ 0 ∷ 0 ∷ 14 ∷ 15 ∷ 0 ∷ 1 ∷ 0 ∷ 0 ∷ 0 ∷ 0 ∷ 0 ∷ 0 ∷ 0 ∷ 0 ∷ 2 ∷ 14 ∷ 15 ∷ 0 ∷ 1 ∷ 12 ∷ 13 ∷ 0 ∷ 0 ∷ 0 ∷ 0 ∷ 0 ∷ 0 ∷ 0 ∷ 0 ∷ 0 ∷ 0 ∷ 0 ∷ 0 ∷ 0 ∷ 0 ∷ 0 ∷ 0 ∷ 0 ∷ 0 ∷ 0 ∷ 0 ∷ 0 ∷ 0 ∷ 0 ∷ 0 ∷ 0 ∷ [])
    -- `%%s:""x";`, kind 1
    ∷ row 1 (37 ∷ 37 ∷ 115 ∷ 58 ∷ 34 ∷ 34 ∷ 120 ∷ 34 ∷ 59 ∷ []) (0 ∷ 9 ∷ 9 ∷ 0 ∷ 9 ∷ 9 ∷ 1 ∷ 0 ∷ 0 ∷ 0 ∷ 0 ∷ 0 ∷ 1 ∷ 1 ∷ 1 ∷ 0 ∷ 5 ∷ 7 ∷ 0 ∷ 2 ∷ 3 ∷ 0 ∷ 0 ∷ 0 ∷ 0 ∷ 4 ∷ 8 ∷ 0 ∷ 1 ∷ 0 ∷ 0 ∷ 0 ∷ 0 ∷ 0 ∷ 0 ∷ 0 ∷ 0 ∷ 2 ∷ 5 ∷ 7 ∷ 0 ∷ 1 ∷ 2 ∷ 3 ∷ 0 ∷ 0 ∷ 0 ∷ 0 ∷ 0 ∷ 0 ∷ 0 ∷ 0 ∷ 0 ∷ 0 ∷ 0 ∷ 0 ∷ 0 ∷ 0 ∷ 0 ∷ 0 ∷ 0 ∷ 0 ∷ 0 ∷ 0 ∷ 0 ∷ 0 ∷ 0 ∷ 0 ∷ 0 ∷ [])
    -- `%%s:{ };`, kind 1
    ∷ row 1 (37 ∷ 37 ∷ 115 ∷ 58 ∷ 123 ∷ 32 ∷ 125 ∷ 59 ∷ []) (0 ∷ 8 ∷ 8 ∷ 0 ∷ 8 ∷ 8 ∷ 0 ∷ 0 ∷ 0 ∷ 0 ∷ 0 ∷ 0 ∷ 1 ∷ 1 ∷ 0 ∷ 0 ∷ 2 ∷ 3 ∷ 0 ∷ 0 ∷ 0 ∷ 0 ∷ 4 ∷ 4 ∷ 0 ∷ 0 ∷ 0 ∷ 0 ∷ 0 ∷ 1 ∷ 5 ∷ 5 ∷ 5 ∷ 5 ∷ 1 ∷ 2 ∷ 3 ∷ 0 ∷ 0 ∷ 0 ∷ 0 ∷ 0 ∷ 0 ∷ 0 ∷ 0 ∷ 0 ∷ 0 ∷ 0 ∷ 0 ∷ 0 ∷ 0 ∷ 0 ∷ 0 ∷ 0 ∷ 0 ∷ 0 ∷ 0 ∷ 0 ∷ 0 ∷ 0 ∷ 0 ∷ 0 ∷ [])
    -- `%start a%start b%%a:;`, kind 1
    ∷ row 1 (37 ∷ 115 ∷ 116 ∷ 97 ∷ 114 ∷ 116 ∷ 32 ∷ 97 ∷ 37 ∷ 115 ∷ 116 ∷ 97 ∷ 114 ∷ 116 ∷ 32 ∷ 98 ∷ 37 ∷ 37 ∷ 97 ∷ 58 ∷ 59 ∷ []) (25 ∷ 7 ∷ 8 ∷ 25 ∷ 7 ∷ 8 ∷ 0 ∷ 0 ∷ 0 ∷ 0 ∷ 0 ∷ 0 ∷ 1 ∷ 1 ∷ 0 ∷ 1 ∷ 18 ∷ 19 ∷ 0 ∷ 0 ∷ 0 ∷ 0 ∷ 20 ∷ 20 ∷ 0 ∷ 0 ∷ 0 ∷ 0 ∷ 0 ∷ 0 ∷ 0 ∷ 0 ∷ 0 ∷ 0 ∷ 25 ∷ 7 ∷ 8 ∷ 15 ∷ 16 ∷ 1 ∷ 7 ∷ 8 ∷ 0 ∷ 0 ∷ 0 ∷ 0 ∷ 0 ∷ 0 ∷ 0 ∷ 0 ∷ 0 ∷ 0 ∷ 0 ∷ 0 ∷ 0 ∷ 0 ∷ 0 ∷ 0 ∷ 0 ∷ 0 ∷ 0 ∷ 0 ∷ 0 ∷ 0 ∷ 0 ∷ 0 ∷ 0 ∷ [])
    ∷ []

pub table_holds : all (λ x. told x.src (read_all x.src x.kind lent slots)) table ≡ true
unfolding is_white all same row table filled rows_of_ten numbers read_all read_names filled_rows row_for named_row attempted sizes_fit size_test is_power halved admitted sections_all rest_all ended_at repeat_of of_number check check_at decl_all decl_run decl_turn decl_step seen_at first_of starts_at begins turns gap_at gap_of spacing spacing_at is_blank is_eol lines_here past_gap push_row list_repeat enter_step once_step add_row room same_part has_name first_row find_name enter_token next_level name_at named word_at token_at bare quoted_at closed is_quote is_at in_class is_letter is_digit run_end run_end_at int_at counted decimal decimal_at string_at string_from string line_end_at single single_from colon_text colon_text_at braced braced_from acted action_at start_decl start_named expect_decl expect_given actiontype_decl actiontype_named param_typed param_decl generics_decl list_decl list_body percent_list list_turn ends token_item spelled_at unused_item unused_row type_item type_row lead_tag tag_at tag_closed tag_row number_behind behind_word marked_from marked prologue_decl union_decl union_body body_row prec_decl prec_body prec_list prec_turn prec_item avoid_decl avoid_list avoid_turn avoid_item avoid_named epp_decl epp_value epp_text epp_given push_production lead_of follow follow_at begun decode decode_at passed passed_at kept moved trim_turn trimmed first_mark sort_at token_symbol quoted_rows quoted_item prec_name item-precItem may_end after_action action_item may_follow empty_item symbol_kind bare_item end_production bar_item end_item item_step item_turn item_list pass_mark first_start colon_type arrow_type rule_type enter_rule named_head rule_head rule_body rule_step next_rule rules_turn rules_run rules_all programs_from zeros zeros_from below given_test action_test token_test prec_test name_test epp_test kind_test rule_test production_test repeat_test fresh_name table_test before range_test ranges_test singles_test hash_from hash_of next_slot free_slot enter_row entries stands row_stands index-filled index_test index_right indexes_test knows_test known_test tables_test sound_test upto known name_faults kind_faults kinds_faults production_faults rule_faults rules_faults epp_faults epps_faults faults validity production_at prec_of
table_holds = refl
