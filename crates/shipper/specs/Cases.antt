-- Small inputs of the shipping form, under one statement; the pass over the crate's model gives the same texts.
use Rattle.std.specs.Prelude.{ℕ, ◌≡◌, refl, true, List, [], ◌∷◌}
use Rattle.scan.specs.Scan.{is_at, begins, starts_at, is_letter, is_digit, is_eol, in_class, run_end, run_end_at}
use Rattle.scan.specs.Lines.{lines_here}
use Rattle.scan.specs.Loop.{turns}
use Rattle.scan.specs.Table.{Case, same, all}
use Rattle.utf8.specs.White.{is_white}
use Rattle.utf8.specs.Utf8.{lead_of, follow, follow_at, begun, decode, decode_at}
use Rattle.trim.specs.Trim.{passed as trim-passed, passed_at, kept, moved, trim_turn, trimmed}
use Rattle.spacing.specs.Spacing.{is_blank, spacing, spacing_at}
use Rattle.words.specs.Words.{word_at, named, name_at, is_quote, closed, quoted_at, bare, token_at}
use Rattle.words.specs.Numbers.{decimal, decimal_at, counted, int_at}
use Rattle.words.specs.Strings.{string, string_from, string_at}
use Rattle.texts.specs.Line.{line_end_at}
use Rattle.texts.specs.Colon.{single, single_from, colon_text, colon_text_at}
use Rattle.texts.specs.Action.{braced, braced_from, acted, action_at}
use Rattle.keywords.specs.Keywords.{first_of, seen_at}
use Rattle.grammar.specs.State.{gap_of, gap_at}
use Rattle.lists.specs.Lists.{spelled_at, ends}
use Rattle.items.specs.Items.{first_mark, sort_at}
use Rattle.shipper.specs.Ship.{passed, piece_end, past_colon, word_turn, ship_words, ship_list, line_turn, line_words, ship_line, ship_one, ship_param, ship_epp, ship_decl, decls_turn, ship_decls, ship_item, items_turn, ship_items, has_arrow, ship_head, ship_rule, rules_turn, ship_rules, ship_programs, rules_from, ship_all}

-- a kind and a source
pub record Input : Type 0 where
  pub kind : ℕ
  pub src : List ℕ

unfoldable pub row : ℕ → List ℕ → List ℕ → Case Input
row kind src gives = record { input = record { kind = kind; src = src }; gives = gives }

unfoldable pub table : List (Case Input)
table =
    -- `%%`
    row 1 (37 ∷ 37 ∷ []) (37 ∷ 37 ∷ 10 ∷ [])
    -- `%%s:;`
    ∷ row 1 (37 ∷ 37 ∷ 115 ∷ 58 ∷ 59 ∷ []) (37 ∷ 37 ∷ 10 ∷ 115 ∷ 58 ∷ 32 ∷ 59 ∷ 10 ∷ [])
    -- `%token_a%%s:A;`
    ∷ row 1 (37 ∷ 116 ∷ 111 ∷ 107 ∷ 101 ∷ 110 ∷ 65 ∷ 37 ∷ 37 ∷ 115 ∷ 58 ∷ 65 ∷ 59 ∷ []) (37 ∷ 116 ∷ 111 ∷ 107 ∷ 101 ∷ 110 ∷ 32 ∷ 65 ∷ 10 ∷ 37 ∷ 37 ∷ 10 ∷ 115 ∷ 58 ∷ 32 ∷ 65 ∷ 32 ∷ 59 ∷ 10 ∷ [])
    -- `%token%%`: a list with no name is left out
    ∷ row 1 (37 ∷ 116 ∷ 111 ∷ 107 ∷ 101 ∷ 110 ∷ 37 ∷ 37 ∷ []) (37 ∷ 37 ∷ 10 ∷ [])
    -- `%left A //c`, `%right B`, then `%%s:A%prec B|%empty;`: the line ends part the lists, the comment goes
    ∷ row 1 (37 ∷ 108 ∷ 101 ∷ 102 ∷ 116 ∷ 32 ∷ 65 ∷ 32 ∷ 47 ∷ 47 ∷ 99 ∷ 10 ∷ 37 ∷ 114 ∷ 105 ∷ 103 ∷ 104 ∷ 116 ∷ 32 ∷ 66 ∷ 13 ∷ 37 ∷ 37 ∷ 115 ∷ 58 ∷ 65 ∷ 37 ∷ 112 ∷ 114 ∷ 101 ∷ 99 ∷ 32 ∷ 66 ∷ 124 ∷ 37 ∷ 101 ∷ 109 ∷ 112 ∷ 116 ∷ 121 ∷ 59 ∷ []) (37 ∷ 108 ∷ 101 ∷ 102 ∷ 116 ∷ 32 ∷ 65 ∷ 10 ∷ 37 ∷ 114 ∷ 105 ∷ 103 ∷ 104 ∷ 116 ∷ 32 ∷ 66 ∷ 10 ∷ 37 ∷ 37 ∷ 10 ∷ 115 ∷ 58 ∷ 32 ∷ 65 ∷ 32 ∷ 37 ∷ 112 ∷ 114 ∷ 101 ∷ 99 ∷ 32 ∷ 66 ∷ 10 ∷ 124 ∷ 32 ∷ 37 ∷ 101 ∷ 109 ∷ 112 ∷ 116 ∷ 121 ∷ 32 ∷ 59 ∷ 10 ∷ [])
    -- `%expect-unused A 'b'%start s%%s:;`
    ∷ row 1 (37 ∷ 101 ∷ 120 ∷ 112 ∷ 101 ∷ 99 ∷ 116 ∷ 45 ∷ 117 ∷ 110 ∷ 117 ∷ 115 ∷ 101 ∷ 100 ∷ 32 ∷ 65 ∷ 32 ∷ 39 ∷ 98 ∷ 39 ∷ 37 ∷ 115 ∷ 116 ∷ 97 ∷ 114 ∷ 116 ∷ 32 ∷ 115 ∷ 37 ∷ 37 ∷ 115 ∷ 58 ∷ 59 ∷ []) (37 ∷ 101 ∷ 120 ∷ 112 ∷ 101 ∷ 99 ∷ 116 ∷ 45 ∷ 117 ∷ 110 ∷ 117 ∷ 115 ∷ 101 ∷ 100 ∷ 32 ∷ 65 ∷ 32 ∷ 39 ∷ 98 ∷ 39 ∷ 10 ∷ 37 ∷ 115 ∷ 116 ∷ 97 ∷ 114 ∷ 116 ∷ 32 ∷ 115 ∷ 10 ∷ 37 ∷ 37 ∷ 10 ∷ 115 ∷ 58 ∷ 32 ∷ 59 ∷ 10 ∷ [])
    -- `%expect 01%expect_rr 2%%s:;`: zeros in front stay
    ∷ row 1 (37 ∷ 101 ∷ 120 ∷ 112 ∷ 101 ∷ 99 ∷ 116 ∷ 32 ∷ 48 ∷ 49 ∷ 37 ∷ 101 ∷ 120 ∷ 112 ∷ 101 ∷ 99 ∷ 116 ∷ 45 ∷ 114 ∷ 114 ∷ 32 ∷ 50 ∷ 37 ∷ 37 ∷ 115 ∷ 58 ∷ 59 ∷ []) (37 ∷ 101 ∷ 120 ∷ 112 ∷ 101 ∷ 99 ∷ 116 ∷ 32 ∷ 48 ∷ 49 ∷ 10 ∷ 37 ∷ 101 ∷ 120 ∷ 112 ∷ 101 ∷ 99 ∷ 116 ∷ 45 ∷ 114 ∷ 114 ∷ 32 ∷ 50 ∷ 10 ∷ 37 ∷ 37 ∷ 10 ∷ 115 ∷ 58 ∷ 32 ∷ 59 ∷ 10 ∷ [])
    -- `%actiontype /`, then `%%s:{ a };`: a text may begin with one `/`
    ∷ row 1 (37 ∷ 97 ∷ 99 ∷ 116 ∷ 105 ∷ 111 ∷ 110 ∷ 116 ∷ 121 ∷ 112 ∷ 101 ∷ 32 ∷ 47 ∷ 10 ∷ 37 ∷ 37 ∷ 115 ∷ 58 ∷ 123 ∷ 32 ∷ 97 ∷ 32 ∷ 125 ∷ 59 ∷ []) (37 ∷ 97 ∷ 99 ∷ 116 ∷ 105 ∷ 111 ∷ 110 ∷ 116 ∷ 121 ∷ 112 ∷ 101 ∷ 32 ∷ 47 ∷ 10 ∷ 37 ∷ 37 ∷ 10 ∷ 115 ∷ 58 ∷ 32 ∷ 123 ∷ 32 ∷ 97 ∷ 32 ∷ 125 ∷ 32 ∷ 59 ∷ 10 ∷ [])
    -- `%epp A "x\"'"%%s:A;`
    ∷ row 1 (37 ∷ 101 ∷ 112 ∷ 112 ∷ 32 ∷ 65 ∷ 32 ∷ 34 ∷ 120 ∷ 92 ∷ 34 ∷ 39 ∷ 34 ∷ 37 ∷ 37 ∷ 115 ∷ 58 ∷ 65 ∷ 59 ∷ []) (37 ∷ 101 ∷ 112 ∷ 112 ∷ 32 ∷ 65 ∷ 32 ∷ 34 ∷ 120 ∷ 92 ∷ 34 ∷ 39 ∷ 34 ∷ 10 ∷ 37 ∷ 37 ∷ 10 ∷ 115 ∷ 58 ∷ 32 ∷ 65 ∷ 32 ∷ 59 ∷ 10 ∷ [])
    -- `%parse-param a: :b`, then `%%s:;`: the space behind the colon is needed
    ∷ row 1 (37 ∷ 112 ∷ 97 ∷ 114 ∷ 115 ∷ 101 ∷ 45 ∷ 112 ∷ 97 ∷ 114 ∷ 97 ∷ 109 ∷ 32 ∷ 97 ∷ 58 ∷ 32 ∷ 58 ∷ 98 ∷ 10 ∷ 37 ∷ 37 ∷ 115 ∷ 58 ∷ 59 ∷ []) (37 ∷ 112 ∷ 97 ∷ 114 ∷ 115 ∷ 101 ∷ 45 ∷ 112 ∷ 97 ∷ 114 ∷ 97 ∷ 109 ∷ 32 ∷ 97 ∷ 58 ∷ 32 ∷ 58 ∷ 98 ∷ 10 ∷ 37 ∷ 37 ∷ 10 ∷ 115 ∷ 58 ∷ 32 ∷ 59 ∷ 10 ∷ [])
    -- `%avoid_insert A 'b'`, `%parse-generics T ` with a space behind, then `%%s:;`
    ∷ row 1 (37 ∷ 97 ∷ 118 ∷ 111 ∷ 105 ∷ 100 ∷ 95 ∷ 105 ∷ 110 ∷ 115 ∷ 101 ∷ 114 ∷ 116 ∷ 32 ∷ 65 ∷ 32 ∷ 39 ∷ 98 ∷ 39 ∷ 10 ∷ 37 ∷ 112 ∷ 97 ∷ 114 ∷ 115 ∷ 101 ∷ 45 ∷ 103 ∷ 101 ∷ 110 ∷ 101 ∷ 114 ∷ 105 ∷ 99 ∷ 115 ∷ 32 ∷ 84 ∷ 32 ∷ 10 ∷ 37 ∷ 37 ∷ 115 ∷ 58 ∷ 59 ∷ []) (37 ∷ 97 ∷ 118 ∷ 111 ∷ 105 ∷ 100 ∷ 95 ∷ 105 ∷ 110 ∷ 115 ∷ 101 ∷ 114 ∷ 116 ∷ 32 ∷ 65 ∷ 32 ∷ 39 ∷ 98 ∷ 39 ∷ 10 ∷ 37 ∷ 112 ∷ 97 ∷ 114 ∷ 115 ∷ 101 ∷ 45 ∷ 103 ∷ 101 ∷ 110 ∷ 101 ∷ 114 ∷ 105 ∷ 99 ∷ 115 ∷ 32 ∷ 84 ∷ 32 ∷ 10 ∷ 37 ∷ 37 ∷ 10 ∷ 115 ∷ 58 ∷ 32 ∷ 59 ∷ 10 ∷ [])
    -- `%implicit_tokens A`, then `%%s:A;`, kind 3
    ∷ row 3 (37 ∷ 105 ∷ 109 ∷ 112 ∷ 108 ∷ 105 ∷ 99 ∷ 105 ∷ 116 ∷ 95 ∷ 116 ∷ 111 ∷ 107 ∷ 101 ∷ 110 ∷ 115 ∷ 32 ∷ 65 ∷ 10 ∷ 37 ∷ 37 ∷ 115 ∷ 58 ∷ 65 ∷ 59 ∷ []) (37 ∷ 105 ∷ 109 ∷ 112 ∷ 108 ∷ 105 ∷ 99 ∷ 105 ∷ 116 ∷ 95 ∷ 116 ∷ 111 ∷ 107 ∷ 101 ∷ 110 ∷ 115 ∷ 32 ∷ 65 ∷ 10 ∷ 37 ∷ 37 ∷ 10 ∷ 115 ∷ 58 ∷ 32 ∷ 65 ∷ 32 ∷ 59 ∷ 10 ∷ [])
    -- `%%s->a::b<c> :x|;`, kind 2: the type is copied up to its colon
    ∷ row 2 (37 ∷ 37 ∷ 115 ∷ 45 ∷ 62 ∷ 97 ∷ 58 ∷ 58 ∷ 98 ∷ 60 ∷ 99 ∷ 62 ∷ 32 ∷ 58 ∷ 120 ∷ 124 ∷ 59 ∷ []) (37 ∷ 37 ∷ 10 ∷ 115 ∷ 32 ∷ 45 ∷ 62 ∷ 32 ∷ 97 ∷ 58 ∷ 58 ∷ 98 ∷ 60 ∷ 99 ∷ 62 ∷ 32 ∷ 58 ∷ 32 ∷ 120 ∷ 10 ∷ 124 ∷ 32 ∷ 59 ∷ 10 ∷ [])
    -- `%%s-> U+00A0// x :;`, kind 2: trimmed, the type would be a comment
    ∷ row 2 (37 ∷ 37 ∷ 115 ∷ 45 ∷ 62 ∷ 32 ∷ 194 ∷ 160 ∷ 47 ∷ 47 ∷ 32 ∷ 120 ∷ 32 ∷ 58 ∷ 59 ∷ []) (37 ∷ 37 ∷ 10 ∷ 115 ∷ 32 ∷ 45 ∷ 62 ∷ 32 ∷ 194 ∷ 160 ∷ 47 ∷ 47 ∷ 32 ∷ 120 ∷ 32 ∷ 58 ∷ 32 ∷ 59 ∷ 10 ∷ [])
    -- `%nonassoc '%'`, then `%%s:'''|''x'|"//"|{}/**/;%% /* p */ q` and a line end
    ∷ row 1 (37 ∷ 110 ∷ 111 ∷ 110 ∷ 97 ∷ 115 ∷ 115 ∷ 111 ∷ 99 ∷ 32 ∷ 39 ∷ 37 ∷ 39 ∷ 10 ∷ 37 ∷ 37 ∷ 115 ∷ 58 ∷ 39 ∷ 39 ∷ 39 ∷ 124 ∷ 39 ∷ 39 ∷ 120 ∷ 39 ∷ 124 ∷ 34 ∷ 47 ∷ 47 ∷ 34 ∷ 124 ∷ 123 ∷ 125 ∷ 47 ∷ 42 ∷ 42 ∷ 47 ∷ 59 ∷ 37 ∷ 37 ∷ 32 ∷ 47 ∷ 42 ∷ 32 ∷ 112 ∷ 32 ∷ 42 ∷ 47 ∷ 32 ∷ 113 ∷ 10 ∷ []) (37 ∷ 110 ∷ 111 ∷ 110 ∷ 97 ∷ 115 ∷ 115 ∷ 111 ∷ 99 ∷ 32 ∷ 39 ∷ 37 ∷ 39 ∷ 10 ∷ 37 ∷ 37 ∷ 10 ∷ 115 ∷ 58 ∷ 32 ∷ 39 ∷ 39 ∷ 39 ∷ 10 ∷ 124 ∷ 32 ∷ 39 ∷ 39 ∷ 120 ∷ 39 ∷ 10 ∷ 124 ∷ 32 ∷ 34 ∷ 47 ∷ 47 ∷ 34 ∷ 10 ∷ 124 ∷ 32 ∷ 123 ∷ 125 ∷ 32 ∷ 59 ∷ 10 ∷ 37 ∷ 37 ∷ 10 ∷ 113 ∷ 10 ∷ [])
    -- `/**/%% s.t : u ; u : /* x` and ` */ t ;` on a second line
    ∷ row 1 (47 ∷ 42 ∷ 42 ∷ 47 ∷ 37 ∷ 37 ∷ 32 ∷ 115 ∷ 46 ∷ 116 ∷ 32 ∷ 58 ∷ 32 ∷ 117 ∷ 32 ∷ 59 ∷ 32 ∷ 117 ∷ 32 ∷ 58 ∷ 32 ∷ 47 ∷ 42 ∷ 32 ∷ 120 ∷ 10 ∷ 32 ∷ 42 ∷ 47 ∷ 32 ∷ 116 ∷ 32 ∷ 59 ∷ []) (37 ∷ 37 ∷ 10 ∷ 115 ∷ 46 ∷ 116 ∷ 58 ∷ 32 ∷ 117 ∷ 32 ∷ 59 ∷ 10 ∷ 117 ∷ 58 ∷ 32 ∷ 116 ∷ 32 ∷ 59 ∷ 10 ∷ [])
    -- a source with most forms, kind 2
    ∷ row 2 (37 ∷ 116 ∷ 111 ∷ 107 ∷ 101 ∷ 110 ∷ 32 ∷ 65 ∷ 32 ∷ 39 ∷ 98 ∷ 39 ∷ 32 ∷ 47 ∷ 47 ∷ 32 ∷ 99 ∷ 10 ∷ 37 ∷ 108 ∷ 101 ∷ 102 ∷ 116 ∷ 32 ∷ 39 ∷ 43 ∷ 39 ∷ 32 ∷ 39 ∷ 45 ∷ 39 ∷ 10 ∷ 37 ∷ 101 ∷ 112 ∷ 112 ∷ 32 ∷ 65 ∷ 32 ∷ 34 ∷ 120 ∷ 92 ∷ 34 ∷ 39 ∷ 195 ∷ 169 ∷ 34 ∷ 10 ∷ 37 ∷ 101 ∷ 120 ∷ 112 ∷ 101 ∷ 99 ∷ 116 ∷ 45 ∷ 114 ∷ 114 ∷ 32 ∷ 48 ∷ 49 ∷ 10 ∷ 37 ∷ 112 ∷ 97 ∷ 114 ∷ 115 ∷ 101 ∷ 45 ∷ 112 ∷ 97 ∷ 114 ∷ 97 ∷ 109 ∷ 32 ∷ 112 ∷ 58 ∷ 58 ∷ 113 ∷ 32 ∷ 58 ∷ 32 ∷ 38 ∷ 84 ∷ 10 ∷ 37 ∷ 37 ∷ 10 ∷ 115 ∷ 46 ∷ 116 ∷ 45 ∷ 62 ∷ 97 ∷ 58 ∷ 58 ∷ 98 ∷ 60 ∷ 117 ∷ 56 ∷ 62 ∷ 32 ∷ 58 ∷ 65 ∷ 32 ∷ 117 ∷ 32 ∷ 37 ∷ 112 ∷ 114 ∷ 101 ∷ 99 ∷ 32 ∷ 85 ∷ 123 ∷ 32 ∷ 195 ∷ 169 ∷ 123 ∷ 125 ∷ 32 ∷ 125 ∷ 124 ∷ 37 ∷ 101 ∷ 109 ∷ 112 ∷ 116 ∷ 121 ∷ 32 ∷ 37 ∷ 112 ∷ 114 ∷ 101 ∷ 99 ∷ 32 ∷ 39 ∷ 43 ∷ 39 ∷ 124 ∷ 34 ∷ 113 ∷ 34 ∷ 32 ∷ 39 ∷ 114 ∷ 39 ∷ 59 ∷ 117 ∷ 45 ∷ 62 ∷ 40 ∷ 41 ∷ 58 ∷ 124 ∷ 59 ∷ 37 ∷ 37 ∷ 112 ∷ 114 ∷ 111 ∷ 103 ∷ []) (37 ∷ 116 ∷ 111 ∷ 107 ∷ 101 ∷ 110 ∷ 32 ∷ 65 ∷ 32 ∷ 39 ∷ 98 ∷ 39 ∷ 10 ∷ 37 ∷ 108 ∷ 101 ∷ 102 ∷ 116 ∷ 32 ∷ 39 ∷ 43 ∷ 39 ∷ 32 ∷ 39 ∷ 45 ∷ 39 ∷ 10 ∷ 37 ∷ 101 ∷ 112 ∷ 112 ∷ 32 ∷ 65 ∷ 32 ∷ 34 ∷ 120 ∷ 92 ∷ 34 ∷ 39 ∷ 195 ∷ 169 ∷ 34 ∷ 10 ∷ 37 ∷ 101 ∷ 120 ∷ 112 ∷ 101 ∷ 99 ∷ 116 ∷ 45 ∷ 114 ∷ 114 ∷ 32 ∷ 48 ∷ 49 ∷ 10 ∷ 37 ∷ 112 ∷ 97 ∷ 114 ∷ 115 ∷ 101 ∷ 45 ∷ 112 ∷ 97 ∷ 114 ∷ 97 ∷ 109 ∷ 32 ∷ 112 ∷ 58 ∷ 58 ∷ 113 ∷ 32 ∷ 58 ∷ 32 ∷ 38 ∷ 84 ∷ 10 ∷ 37 ∷ 37 ∷ 10 ∷ 115 ∷ 46 ∷ 116 ∷ 32 ∷ 45 ∷ 62 ∷ 32 ∷ 97 ∷ 58 ∷ 58 ∷ 98 ∷ 60 ∷ 117 ∷ 56 ∷ 62 ∷ 32 ∷ 58 ∷ 32 ∷ 65 ∷ 32 ∷ 117 ∷ 32 ∷ 37 ∷ 112 ∷ 114 ∷ 101 ∷ 99 ∷ 32 ∷ 85 ∷ 32 ∷ 123 ∷ 32 ∷ 195 ∷ 169 ∷ 123 ∷ 125 ∷ 32 ∷ 125 ∷ 10 ∷ 124 ∷ 32 ∷ 37 ∷ 101 ∷ 109 ∷ 112 ∷ 116 ∷ 121 ∷ 32 ∷ 37 ∷ 112 ∷ 114 ∷ 101 ∷ 99 ∷ 32 ∷ 39 ∷ 43 ∷ 39 ∷ 10 ∷ 124 ∷ 32 ∷ 34 ∷ 113 ∷ 34 ∷ 32 ∷ 39 ∷ 114 ∷ 39 ∷ 32 ∷ 59 ∷ 10 ∷ 117 ∷ 32 ∷ 45 ∷ 62 ∷ 32 ∷ 40 ∷ 41 ∷ 58 ∷ 10 ∷ 124 ∷ 32 ∷ 59 ∷ 10 ∷ 37 ∷ 37 ∷ 10 ∷ 112 ∷ 114 ∷ 111 ∷ 103 ∷ [])
    ∷ []

pub table_holds : all (λ x. ship_all x.kind x.src) table ≡ true
unfolding is_white all same row table seen_at first_of starts_at begins turns gap_at gap_of spacing spacing_at is_blank is_eol lines_here name_at named word_at token_at bare quoted_at closed is_quote is_at in_class is_letter is_digit run_end run_end_at int_at counted decimal decimal_at string_at string_from string line_end_at single single_from colon_text colon_text_at braced braced_from acted action_at spelled_at ends first_mark sort_at lead_of follow follow_at begun decode decode_at trim-passed passed_at kept moved trim_turn trimmed passed piece_end past_colon word_turn ship_words ship_list line_turn line_words ship_line ship_one ship_param ship_epp ship_decl decls_turn ship_decls ship_item items_turn ship_items has_arrow ship_head ship_rule rules_turn ship_rules ship_programs rules_from ship_all
table_holds = refl
