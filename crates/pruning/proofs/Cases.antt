-- Document 02, request Eight, on small inputs: tables that validate, the bits of the rows that stay, and what the definition gives: counts, every cell of the ten tables, every
-- slot of both indexes. The numbers were worked out by a program of their own, from the request's words.
use Rattle.std.specs.Prelude.{ℕ, ◌≡◌, refl, true, List, [], ◌∷◌, ◌++◌, Option, Some, None}
use Rattle.scan.specs.Table.{Case, same, all}
use Rattle.tables.specs.Below.{below}
use Rattle.tables.specs.Rows.{row_at}
use Rattle.tables.specs.Table.{same_part, has_name, first_row, find_name}
use Rattle.index.specs.Hash.{hash_from, hash_of}
use Rattle.index.specs.Index.{free_slot, enter_row, entries, fresh_name, next_slot, stands, row_stands, filled, index_test, halved, is_power, size_test}
use Rattle.symbols.specs.Symbols.{named_row, row_for, knows_test}
use Rattle.grammar.specs.declared.Counts.{Counts}
use Rattle.grammar.specs.declared.Singles.{Singles}
use Rattle.grammar.specs.Sound.{Tables, Indexes}
use Rattle.productions.specs.Cells.{prec_of, production_at}
use Rattle.sound.specs.Test.{zeros, zeros_from, given_test, action_test, token_test, prec_test, name_test, epp_test, kind_test, rule_test, production_test, repeat_test, table_test, before, range_test, ranges_test, singles_test, index_right, indexes_test, known_test, tables_test, sound_test}
use Rattle.validation.specs.Faults.{upto, known, name_faults, kind_faults, kinds_faults, production_faults, rule_faults, rules_faults, epp_faults, epps_faults, faults, validity, validity_numbers}
use Rattle.bits.specs.Bits.{bit}
use Rattle.closing.specs.Close.{kept_rows, rank, table_of}
use Rattle.pruning.specs.Pruned.{name_stays, row_stays, production_stays, chained, new_number, renumbered_symbols, symbols_of, Pruned, pruned}

pub record Input : Type 0 where
  pub src : List ℕ
  pub counts : Counts
  pub singles : Singles
  pub tables : Tables
  pub indexes : Indexes
  pub work : List ℕ

abbrev pub row : List ℕ → List ℕ → Option (ℕ × ℕ) → List ℕ → List ℕ → List ℕ → List ℕ → List ℕ → List ℕ → List ℕ → List ℕ → List ℕ → List ℕ → List ℕ → List ℕ → List ℕ → Case Input
row src c start t1 t2 t3 t4 t5 t6 t7 t8 t9 i1 i7 ws gives =
    record {
      input = record {
        src = src;
        counts = record { n = c };
        singles = record { start = start; expect = None; expect_rr = None; param = None; generics = None; programs = Some (0, 0) };
        tables = record { t1 = t1; t2 = t2; t3 = t3; t4 = t4; t5 = t5; t6 = t6; t7 = t7; t8 = t8; t9 = t9; t10 = [] };
        indexes = record { tokens = i1; rules = i7 };
        work = ws;
      };
      gives = gives;
    }

-- all numbers of an outcome
abbrev pub told : Pruned → List ℕ
told p = p.counts.n ++ p.tables.t1 ++ p.tables.t2 ++ p.tables.t3 ++ p.tables.t4 ++ p.tables.t5 ++ p.tables.t6 ++ p.tables.t7 ++ p.tables.t8 ++ p.tables.t9 ++ p.tables.t10 ++ p.indexes.tokens ++ p.indexes.rules

unfoldable pub table : List (Case Input)
table =
    -- `%%s:;`: all stays
    row (37 ∷ 37 ∷ 115 ∷ 58 ∷ 59 ∷ []) (0 ∷ 0 ∷ 0 ∷ 0 ∷ 0 ∷ 0 ∷ 1 ∷ 1 ∷ 0 ∷ 0 ∷ []) (Some (2, 3)) (0 ∷ 0 ∷ 0 ∷ []) ([]) ([]) ([]) ([]) ([]) (2 ∷ 3 ∷ 0 ∷ 0 ∷ 0 ∷ 0 ∷ 0 ∷ 0 ∷ 0 ∷ 0 ∷ []) (0 ∷ 4 ∷ 4 ∷ 0 ∷ 0 ∷ 0 ∷ 0 ∷ 0 ∷ 0 ∷ 0 ∷ 0 ∷ 0 ∷ 0 ∷ []) ([]) (0 ∷ 0 ∷ []) (1 ∷ 0 ∷ 0 ∷ 0 ∷ []) (1 ∷ [])
    ((0 ∷ 0 ∷ 0 ∷ 0 ∷ 0 ∷ 0 ∷ 1 ∷ 1 ∷ 0 ∷ 0 ∷ []) ++ (0 ∷ 0 ∷ 0 ∷ []) ++ ([]) ++ ([]) ++ ([]) ++ ([]) ++ ([]) ++ (2 ∷ 3 ∷ 0 ∷ 0 ∷ 0 ∷ 0 ∷ 0 ∷ 0 ∷ 0 ∷ 0 ∷ []) ++ (0 ∷ 4 ∷ 4 ∷ 0 ∷ 0 ∷ 0 ∷ 0 ∷ 0 ∷ 0 ∷ 0 ∷ 0 ∷ 0 ∷ 0 ∷ []) ++ ([]) ++ ([]) ++ (0 ∷ 0 ∷ []) ++ (1 ∷ 0 ∷ 0 ∷ 0 ∷ []))
    -- `%token A B C P D %avoid_insert B A`, LF, `%epp C "c" %epp A "a" %left P`, LF, `%start s %%d:B;s:t|A D %prec P;t:;e:C d;`: the rules d and e and the tokens B and C go, with their rows in tables 3 and 5; P stays by its `%prec`
    ∷ row (37 ∷ 116 ∷ 111 ∷ 107 ∷ 101 ∷ 110 ∷ 32 ∷ 65 ∷ 32 ∷ 66 ∷ 32 ∷ 67 ∷ 32 ∷ 80 ∷ 32 ∷ 68 ∷ 32 ∷ 37 ∷ 97 ∷ 118 ∷ 111 ∷ 105 ∷ 100 ∷ 95 ∷ 105 ∷ 110 ∷ 115 ∷ 101 ∷ 114 ∷ 116 ∷ 32 ∷ 66 ∷ 32 ∷ 65 ∷ 10 ∷ 37 ∷ 101 ∷ 112 ∷ 112 ∷ 32 ∷ 67 ∷ 32 ∷ 34 ∷ 99 ∷ 34 ∷ 32 ∷ 37 ∷ 101 ∷ 112 ∷ 112 ∷ 32 ∷ 65 ∷ 32 ∷ 34 ∷ 97 ∷ 34 ∷ 32 ∷ 37 ∷ 108 ∷ 101 ∷ 102 ∷ 116 ∷ 32 ∷ 80 ∷ 10 ∷ 37 ∷ 115 ∷ 116 ∷ 97 ∷ 114 ∷ 116 ∷ 32 ∷ 115 ∷ 32 ∷ 37 ∷ 37 ∷ 100 ∷ 58 ∷ 66 ∷ 59 ∷ 115 ∷ 58 ∷ 116 ∷ 124 ∷ 65 ∷ 32 ∷ 68 ∷ 32 ∷ 37 ∷ 112 ∷ 114 ∷ 101 ∷ 99 ∷ 32 ∷ 80 ∷ 59 ∷ 116 ∷ 58 ∷ 59 ∷ 101 ∷ 58 ∷ 67 ∷ 32 ∷ 100 ∷ 59 ∷ []) (5 ∷ 1 ∷ 2 ∷ 0 ∷ 2 ∷ 0 ∷ 4 ∷ 5 ∷ 6 ∷ 0 ∷ []) (Some (72, 73)) (7 ∷ 8 ∷ 1 ∷ 9 ∷ 10 ∷ 1 ∷ 11 ∷ 12 ∷ 1 ∷ 13 ∷ 14 ∷ 1 ∷ 15 ∷ 16 ∷ 1 ∷ 0 ∷ 0 ∷ 0 ∷ []) (63 ∷ 64 ∷ 0 ∷ 1 ∷ []) (31 ∷ 32 ∷ 33 ∷ 34 ∷ []) ([]) (40 ∷ 41 ∷ 40 ∷ 41 ∷ 42 ∷ 45 ∷ 51 ∷ 52 ∷ 51 ∷ 52 ∷ 53 ∷ 56 ∷ []) ([]) (76 ∷ 77 ∷ 0 ∷ 0 ∷ 0 ∷ 80 ∷ 81 ∷ 0 ∷ 0 ∷ 0 ∷ 96 ∷ 97 ∷ 0 ∷ 0 ∷ 0 ∷ 99 ∷ 100 ∷ 0 ∷ 0 ∷ 0 ∷ 0 ∷ 0 ∷ 0 ∷ 0 ∷ 0 ∷ []) (0 ∷ 78 ∷ 79 ∷ 0 ∷ 1 ∷ 0 ∷ 0 ∷ 0 ∷ 0 ∷ 0 ∷ 0 ∷ 0 ∷ 0 ∷ 1 ∷ 82 ∷ 83 ∷ 1 ∷ 2 ∷ 0 ∷ 0 ∷ 0 ∷ 0 ∷ 0 ∷ 0 ∷ 0 ∷ 0 ∷ 1 ∷ 84 ∷ 95 ∷ 2 ∷ 4 ∷ 1 ∷ 94 ∷ 95 ∷ 0 ∷ 0 ∷ 0 ∷ 0 ∷ 0 ∷ 2 ∷ 98 ∷ 98 ∷ 4 ∷ 4 ∷ 0 ∷ 0 ∷ 0 ∷ 0 ∷ 0 ∷ 0 ∷ 0 ∷ 0 ∷ 3 ∷ 101 ∷ 104 ∷ 4 ∷ 6 ∷ 0 ∷ 0 ∷ 0 ∷ 0 ∷ 0 ∷ 0 ∷ 0 ∷ 0 ∷ []) (2 ∷ 78 ∷ 79 ∷ 1 ∷ 1 ∷ 82 ∷ 83 ∷ 2 ∷ 2 ∷ 84 ∷ 85 ∷ 0 ∷ 2 ∷ 86 ∷ 87 ∷ 4 ∷ 2 ∷ 101 ∷ 102 ∷ 2 ∷ 1 ∷ 103 ∷ 104 ∷ 0 ∷ []) (0 ∷ 0 ∷ 0 ∷ 0 ∷ 0 ∷ 4 ∷ 1 ∷ 2 ∷ 3 ∷ 5 ∷ 0 ∷ 0 ∷ 0 ∷ 0 ∷ 0 ∷ 0 ∷ []) (0 ∷ 0 ∷ 0 ∷ 0 ∷ 0 ∷ 0 ∷ 0 ∷ 0 ∷ 2 ∷ 1 ∷ 3 ∷ 4 ∷ 0 ∷ 0 ∷ 0 ∷ 0 ∷ []) (6 ∷ 25 ∷ [])
    ((3 ∷ 1 ∷ 1 ∷ 0 ∷ 1 ∷ 0 ∷ 2 ∷ 3 ∷ 3 ∷ 0 ∷ []) ++ (7 ∷ 8 ∷ 1 ∷ 13 ∷ 14 ∷ 1 ∷ 15 ∷ 16 ∷ 1 ∷ 0 ∷ 0 ∷ 0 ∷ 0 ∷ 0 ∷ 0 ∷ 0 ∷ 0 ∷ 0 ∷ []) ++ (63 ∷ 64 ∷ 0 ∷ 1 ∷ []) ++ (33 ∷ 34 ∷ 0 ∷ 0 ∷ []) ++ ([]) ++ (51 ∷ 52 ∷ 51 ∷ 52 ∷ 53 ∷ 56 ∷ 0 ∷ 0 ∷ 0 ∷ 0 ∷ 0 ∷ 0 ∷ []) ++ ([]) ++ (80 ∷ 81 ∷ 0 ∷ 0 ∷ 0 ∷ 96 ∷ 97 ∷ 0 ∷ 0 ∷ 0 ∷ 0 ∷ 0 ∷ 0 ∷ 0 ∷ 0 ∷ 0 ∷ 0 ∷ 0 ∷ 0 ∷ 0 ∷ 0 ∷ 0 ∷ 0 ∷ 0 ∷ 0 ∷ []) ++ (0 ∷ 82 ∷ 83 ∷ 0 ∷ 1 ∷ 0 ∷ 0 ∷ 0 ∷ 0 ∷ 0 ∷ 0 ∷ 0 ∷ 0 ∷ 0 ∷ 84 ∷ 95 ∷ 1 ∷ 3 ∷ 1 ∷ 94 ∷ 95 ∷ 0 ∷ 0 ∷ 0 ∷ 0 ∷ 0 ∷ 1 ∷ 98 ∷ 98 ∷ 3 ∷ 3 ∷ 0 ∷ 0 ∷ 0 ∷ 0 ∷ 0 ∷ 0 ∷ 0 ∷ 0 ∷ 0 ∷ 0 ∷ 0 ∷ 0 ∷ 0 ∷ 0 ∷ 0 ∷ 0 ∷ 0 ∷ 0 ∷ 0 ∷ 0 ∷ 0 ∷ 0 ∷ 0 ∷ 0 ∷ 0 ∷ 0 ∷ 0 ∷ 0 ∷ 0 ∷ 0 ∷ 0 ∷ 0 ∷ 0 ∷ 0 ∷ []) ++ (1 ∷ 82 ∷ 83 ∷ 1 ∷ 2 ∷ 84 ∷ 85 ∷ 0 ∷ 2 ∷ 86 ∷ 87 ∷ 2 ∷ 0 ∷ 0 ∷ 0 ∷ 0 ∷ 0 ∷ 0 ∷ 0 ∷ 0 ∷ 0 ∷ 0 ∷ 0 ∷ 0 ∷ []) ++ ([]) ++ (0 ∷ 0 ∷ 0 ∷ 0 ∷ 0 ∷ 2 ∷ 1 ∷ 0 ∷ 0 ∷ 3 ∷ 0 ∷ 0 ∷ 0 ∷ 0 ∷ 0 ∷ 0 ∷ []) ++ (0 ∷ 0 ∷ 0 ∷ 0 ∷ 0 ∷ 0 ∷ 0 ∷ 0 ∷ 1 ∷ 2 ∷ 0 ∷ 0 ∷ 0 ∷ 0 ∷ 0 ∷ 0 ∷ []))
    -- `%implicit_tokens W I`, LF, `%epp I "i" %expect-unused e 'Q'%token B C`, LF, `%%s:;k:B s;e:f C;f:;`, with W as a token and I as none: the rule k and the token B go; e, f, Q and W stay, and so does the `%epp` row of I
    ∷ row (37 ∷ 105 ∷ 109 ∷ 112 ∷ 108 ∷ 105 ∷ 99 ∷ 105 ∷ 116 ∷ 95 ∷ 116 ∷ 111 ∷ 107 ∷ 101 ∷ 110 ∷ 115 ∷ 32 ∷ 87 ∷ 32 ∷ 73 ∷ 10 ∷ 37 ∷ 101 ∷ 112 ∷ 112 ∷ 32 ∷ 73 ∷ 32 ∷ 34 ∷ 105 ∷ 34 ∷ 32 ∷ 37 ∷ 101 ∷ 120 ∷ 112 ∷ 101 ∷ 99 ∷ 116 ∷ 45 ∷ 117 ∷ 110 ∷ 117 ∷ 115 ∷ 101 ∷ 100 ∷ 32 ∷ 101 ∷ 32 ∷ 39 ∷ 81 ∷ 39 ∷ 37 ∷ 116 ∷ 111 ∷ 107 ∷ 101 ∷ 110 ∷ 32 ∷ 66 ∷ 32 ∷ 67 ∷ 10 ∷ 37 ∷ 37 ∷ 115 ∷ 58 ∷ 59 ∷ 107 ∷ 58 ∷ 66 ∷ 32 ∷ 115 ∷ 59 ∷ 101 ∷ 58 ∷ 102 ∷ 32 ∷ 67 ∷ 59 ∷ 102 ∷ 58 ∷ 59 ∷ []) (4 ∷ 0 ∷ 0 ∷ 2 ∷ 1 ∷ 2 ∷ 4 ∷ 4 ∷ 4 ∷ 0 ∷ []) (Some (65, 66)) (17 ∷ 18 ∷ 0 ∷ 59 ∷ 60 ∷ 1 ∷ 50 ∷ 51 ∷ 0 ∷ 61 ∷ 62 ∷ 1 ∷ 0 ∷ 0 ∷ 0 ∷ []) ([]) ([]) (17 ∷ 18 ∷ 19 ∷ 20 ∷ []) (26 ∷ 27 ∷ 26 ∷ 27 ∷ 28 ∷ 31 ∷ []) (1 ∷ 47 ∷ 48 ∷ 2 ∷ 50 ∷ 51 ∷ []) (65 ∷ 66 ∷ 0 ∷ 0 ∷ 0 ∷ 68 ∷ 69 ∷ 0 ∷ 0 ∷ 0 ∷ 74 ∷ 75 ∷ 0 ∷ 0 ∷ 0 ∷ 80 ∷ 81 ∷ 0 ∷ 0 ∷ 0 ∷ 0 ∷ 0 ∷ 0 ∷ 0 ∷ 0 ∷ []) (0 ∷ 67 ∷ 67 ∷ 0 ∷ 0 ∷ 0 ∷ 0 ∷ 0 ∷ 0 ∷ 0 ∷ 0 ∷ 0 ∷ 0 ∷ 1 ∷ 70 ∷ 73 ∷ 0 ∷ 2 ∷ 0 ∷ 0 ∷ 0 ∷ 0 ∷ 0 ∷ 0 ∷ 0 ∷ 0 ∷ 2 ∷ 76 ∷ 79 ∷ 2 ∷ 4 ∷ 0 ∷ 0 ∷ 0 ∷ 0 ∷ 0 ∷ 0 ∷ 0 ∷ 0 ∷ 3 ∷ 82 ∷ 82 ∷ 4 ∷ 4 ∷ 0 ∷ 0 ∷ 0 ∷ 0 ∷ 0 ∷ 0 ∷ 0 ∷ 0 ∷ []) (2 ∷ 70 ∷ 71 ∷ 1 ∷ 1 ∷ 72 ∷ 73 ∷ 0 ∷ 1 ∷ 76 ∷ 77 ∷ 3 ∷ 2 ∷ 78 ∷ 79 ∷ 3 ∷ []) (0 ∷ 0 ∷ 0 ∷ 0 ∷ 0 ∷ 0 ∷ 3 ∷ 2 ∷ 4 ∷ 0 ∷ 0 ∷ 0 ∷ 1 ∷ 0 ∷ 0 ∷ 0 ∷ []) (2 ∷ 0 ∷ 0 ∷ 0 ∷ 0 ∷ 0 ∷ 0 ∷ 0 ∷ 1 ∷ 0 ∷ 3 ∷ 4 ∷ 0 ∷ 0 ∷ 0 ∷ 0 ∷ []) (13 ∷ 13 ∷ [])
    ((3 ∷ 0 ∷ 0 ∷ 2 ∷ 1 ∷ 2 ∷ 3 ∷ 3 ∷ 2 ∷ 0 ∷ []) ++ (17 ∷ 18 ∷ 0 ∷ 50 ∷ 51 ∷ 0 ∷ 61 ∷ 62 ∷ 1 ∷ 0 ∷ 0 ∷ 0 ∷ 0 ∷ 0 ∷ 0 ∷ []) ++ ([]) ++ ([]) ++ (17 ∷ 18 ∷ 19 ∷ 20 ∷ []) ++ (26 ∷ 27 ∷ 26 ∷ 27 ∷ 28 ∷ 31 ∷ []) ++ (1 ∷ 47 ∷ 48 ∷ 2 ∷ 50 ∷ 51 ∷ []) ++ (65 ∷ 66 ∷ 0 ∷ 0 ∷ 0 ∷ 74 ∷ 75 ∷ 0 ∷ 0 ∷ 0 ∷ 80 ∷ 81 ∷ 0 ∷ 0 ∷ 0 ∷ 0 ∷ 0 ∷ 0 ∷ 0 ∷ 0 ∷ 0 ∷ 0 ∷ 0 ∷ 0 ∷ 0 ∷ []) ++ (0 ∷ 67 ∷ 67 ∷ 0 ∷ 0 ∷ 0 ∷ 0 ∷ 0 ∷ 0 ∷ 0 ∷ 0 ∷ 0 ∷ 0 ∷ 1 ∷ 76 ∷ 79 ∷ 0 ∷ 2 ∷ 0 ∷ 0 ∷ 0 ∷ 0 ∷ 0 ∷ 0 ∷ 0 ∷ 0 ∷ 2 ∷ 82 ∷ 82 ∷ 2 ∷ 2 ∷ 0 ∷ 0 ∷ 0 ∷ 0 ∷ 0 ∷ 0 ∷ 0 ∷ 0 ∷ 0 ∷ 0 ∷ 0 ∷ 0 ∷ 0 ∷ 0 ∷ 0 ∷ 0 ∷ 0 ∷ 0 ∷ 0 ∷ 0 ∷ 0 ∷ []) ++ (1 ∷ 76 ∷ 77 ∷ 2 ∷ 2 ∷ 78 ∷ 79 ∷ 2 ∷ 0 ∷ 0 ∷ 0 ∷ 0 ∷ 0 ∷ 0 ∷ 0 ∷ 0 ∷ []) ++ ([]) ++ (0 ∷ 0 ∷ 0 ∷ 0 ∷ 0 ∷ 0 ∷ 2 ∷ 0 ∷ 3 ∷ 0 ∷ 0 ∷ 0 ∷ 1 ∷ 0 ∷ 0 ∷ 0 ∷ []) ++ (0 ∷ 0 ∷ 0 ∷ 0 ∷ 0 ∷ 0 ∷ 0 ∷ 0 ∷ 1 ∷ 0 ∷ 2 ∷ 3 ∷ 0 ∷ 0 ∷ 0 ∷ 0 ∷ []))
    ∷ []

pub pruned_hold : all (λ x. told (pruned x.src x.counts x.tables x.indexes x.work)) table ≡ true
unfolding all same table same_part has_name first_row find_name hash_from hash_of next_slot free_slot enter_row entries row_at bit kept_rows rank table_of name_stays row_stays production_stays chained new_number renumbered_symbols symbols_of pruned
pruned_hold = refl

-- the tables validate
unfoldable pub inputs : List (Case Input) → List (Case Input)
inputs [] = []
inputs (c ∷ cs) = record { input = c.input; gives = 0 ∷ 0 ∷ 0 ∷ [] } ∷ inputs cs

pub inputs_valid : all (λ x. validity_numbers (validity x.src x.counts x.singles x.tables x.indexes)) (inputs table) ≡ true
unfolding all same table inputs same_part has_name first_row find_name prec_of production_at zeros zeros_from below given_test action_test token_test prec_test name_test epp_test kind_test rule_test production_test repeat_test fresh_name table_test before range_test ranges_test singles_test hash_from hash_of next_slot stands row_stands filled index_test halved is_power size_test index_right indexes_test knows_test row_for named_row known_test tables_test sound_test upto known name_faults kind_faults kinds_faults production_faults rule_faults rules_faults epp_faults epps_faults faults validity
inputs_valid = refl
