-- Document 02, request One, on small inputs: tables as they are read, or spoiled, and what the list of all faults gives: answer and count, then every cell of table 14. The faults are those of
-- the model, whose first has the crate's number; a `%prec` without its token, which no reading has, is by the document.
use Rattle.std.specs.Prelude.{ℕ, ◌≡◌, refl, true, List, [], ◌∷◌, ◌++◌, replicate, Option, Some, None}
use Rattle.scan.specs.Table.{Case, same, all}
use Rattle.tables.specs.Table.{same_part, has_name, first_row, find_name}
use Rattle.index.specs.Hash.{hash_from, hash_of}
use Rattle.tables.specs.Below.{below}
use Rattle.index.specs.Index.{fresh_name, next_slot, stands, row_stands, filled, index_test, halved, is_power, size_test}
use Rattle.grammar.specs.declared.Counts.{Counts}
use Rattle.grammar.specs.declared.Singles.{Singles}
use Rattle.symbols.specs.Symbols.{named_row, row_for, knows_test}
use Rattle.grammar.specs.Sound.{Tables, Indexes}
use Rattle.productions.specs.Cells.{prec_of, production_at}
use Rattle.sound.specs.Test.{zeros, zeros_from, given_test, action_test, token_test, prec_test, name_test, epp_test, kind_test, rule_test, production_test, repeat_test, table_test, before, range_test, ranges_test, singles_test, index_right, indexes_test, known_test, tables_test, sound_test}
use Rattle.validation.specs.Faults.{upto, known, name_faults, kind_faults, kinds_faults, production_faults, rule_faults, rules_faults, epp_faults, epps_faults, faults}
use Rattle.validation.specs.Walk.{AllFaults, fault_listing, fault_listing_numbers}

pub record Lent : Type 0 where
  pub src : List ℕ
  pub counts : Counts
  pub singles : Singles
  pub tables : Tables
  pub indexes : Indexes
  -- table 14, with something in it
  pub list : List ℕ

abbrev pub row : List ℕ → List ℕ → Option (ℕ × ℕ) → List ℕ → List ℕ → List ℕ → List ℕ → List ℕ → List ℕ → List ℕ → List ℕ → List ℕ → List ℕ → List ℕ → ℕ → List ℕ → Case Lent
row src c start t1 t2 t3 t4 t5 t6 t7 t8 t9 i1 i7 n gives =
    record {
      input = record {
        src = src;
        counts = record { n = c };
        singles = record { start = start; expect = None; expect_rr = None; param = None; generics = None; programs = Some (0, 0) };
        tables = record { t1 = t1; t2 = t2; t3 = t3; t4 = t4; t5 = t5; t6 = t6; t7 = t7; t8 = t8; t9 = t9; t10 = [] };
        indexes = record { tokens = i1; rules = i7 };
        list = replicate n 7;
      };
      gives = gives;
    }

abbrev pub told : AllFaults → List ℕ
told o = fault_listing_numbers o.answer ++ o.cells

unfoldable pub table : List (Case Lent)
table =
    -- `%%s:;`: no fault
    row (37 ∷ 37 ∷ 115 ∷ 58 ∷ 59 ∷ []) (0 ∷ 0 ∷ 0 ∷ 0 ∷ 0 ∷ 0 ∷ 1 ∷ 1 ∷ 0 ∷ 0 ∷ []) (Some (2, 3)) ([]) ([]) ([]) ([]) ([]) ([]) (2 ∷ 3 ∷ 0 ∷ 0 ∷ 0 ∷ []) (0 ∷ 4 ∷ 4 ∷ 0 ∷ 0 ∷ 0 ∷ 0 ∷ 0 ∷ 0 ∷ 0 ∷ 0 ∷ 0 ∷ 0 ∷ []) ([]) (0 ∷ []) (1 ∷ 0 ∷ []) 4 (0 ∷ 0 ∷ 0 ∷ 0 ∷ 0 ∷ 0 ∷ 0 ∷ 0 ∷ 0 ∷ [])
    -- `%%`: no start
    ∷ row (37 ∷ 37 ∷ []) (0 ∷ 0 ∷ 0 ∷ 0 ∷ 0 ∷ 0 ∷ 0 ∷ 0 ∷ 0 ∷ 0 ∷ []) (None) ([]) ([]) ([]) ([]) ([]) ([]) ([]) ([]) ([]) (0 ∷ []) (0 ∷ []) 3 (0 ∷ 0 ∷ 0 ∷ 0 ∷ 1 ∷ 30 ∷ 0 ∷ 0 ∷ [])
    -- `%start q%%s:x %prec P;`: start, `%prec`, symbol
    ∷ row (37 ∷ 115 ∷ 116 ∷ 97 ∷ 114 ∷ 116 ∷ 32 ∷ 113 ∷ 37 ∷ 37 ∷ 115 ∷ 58 ∷ 120 ∷ 32 ∷ 37 ∷ 112 ∷ 114 ∷ 101 ∷ 99 ∷ 32 ∷ 80 ∷ 59 ∷ []) (1 ∷ 0 ∷ 0 ∷ 0 ∷ 0 ∷ 0 ∷ 1 ∷ 1 ∷ 1 ∷ 0 ∷ []) (Some (7, 8)) (20 ∷ 21 ∷ 0 ∷ []) ([]) ([]) ([]) ([]) ([]) (10 ∷ 11 ∷ 0 ∷ 0 ∷ 0 ∷ []) (0 ∷ 12 ∷ 21 ∷ 0 ∷ 1 ∷ 1 ∷ 20 ∷ 21 ∷ 0 ∷ 0 ∷ 0 ∷ 0 ∷ 0 ∷ []) (1 ∷ 12 ∷ 13 ∷ 4294967295 ∷ []) (0 ∷ 1 ∷ []) (1 ∷ 0 ∷ []) 10 (0 ∷ 0 ∷ 0 ∷ 0 ∷ 3 ∷ 31 ∷ 7 ∷ 8 ∷ 34 ∷ 20 ∷ 21 ∷ 32 ∷ 12 ∷ 13 ∷ 0 ∷ [])
    -- `%%s:;t:x;s:y;`: rules in order, not productions in order
    ∷ row (37 ∷ 37 ∷ 115 ∷ 58 ∷ 59 ∷ 116 ∷ 58 ∷ 120 ∷ 59 ∷ 115 ∷ 58 ∷ 121 ∷ 59 ∷ []) (0 ∷ 0 ∷ 0 ∷ 0 ∷ 0 ∷ 0 ∷ 2 ∷ 3 ∷ 2 ∷ 0 ∷ []) (Some (2, 3)) ([]) ([]) ([]) ([]) ([]) ([]) (2 ∷ 3 ∷ 0 ∷ 0 ∷ 0 ∷ 5 ∷ 6 ∷ 0 ∷ 0 ∷ 0 ∷ []) (0 ∷ 4 ∷ 4 ∷ 0 ∷ 0 ∷ 0 ∷ 0 ∷ 0 ∷ 0 ∷ 0 ∷ 0 ∷ 0 ∷ 0 ∷ 1 ∷ 7 ∷ 8 ∷ 0 ∷ 1 ∷ 0 ∷ 0 ∷ 0 ∷ 0 ∷ 0 ∷ 0 ∷ 0 ∷ 0 ∷ 0 ∷ 11 ∷ 12 ∷ 1 ∷ 2 ∷ 0 ∷ 0 ∷ 0 ∷ 0 ∷ 0 ∷ 0 ∷ 0 ∷ 0 ∷ []) (1 ∷ 7 ∷ 8 ∷ 4294967295 ∷ 1 ∷ 11 ∷ 12 ∷ 4294967295 ∷ []) (0 ∷ []) (1 ∷ 2 ∷ 0 ∷ 0 ∷ []) 6 (0 ∷ 0 ∷ 0 ∷ 0 ∷ 2 ∷ 32 ∷ 11 ∷ 12 ∷ 32 ∷ 7 ∷ 8 ∷ [])
    -- `%epp k 'v'%expect-unused u 'w'%%s:x;`: symbols, `%epp`, expected unused
    ∷ row (37 ∷ 101 ∷ 112 ∷ 112 ∷ 32 ∷ 107 ∷ 32 ∷ 39 ∷ 118 ∷ 39 ∷ 37 ∷ 101 ∷ 120 ∷ 112 ∷ 101 ∷ 99 ∷ 116 ∷ 45 ∷ 117 ∷ 110 ∷ 117 ∷ 115 ∷ 101 ∷ 100 ∷ 32 ∷ 117 ∷ 32 ∷ 39 ∷ 119 ∷ 39 ∷ 37 ∷ 37 ∷ 115 ∷ 58 ∷ 120 ∷ 59 ∷ []) (0 ∷ 0 ∷ 0 ∷ 0 ∷ 1 ∷ 2 ∷ 1 ∷ 1 ∷ 1 ∷ 0 ∷ []) (Some (32, 33)) ([]) ([]) ([]) ([]) (5 ∷ 6 ∷ 5 ∷ 6 ∷ 7 ∷ 10 ∷ []) (1 ∷ 25 ∷ 26 ∷ 2 ∷ 28 ∷ 29 ∷ []) (32 ∷ 33 ∷ 0 ∷ 0 ∷ 0 ∷ []) (0 ∷ 34 ∷ 35 ∷ 0 ∷ 1 ∷ 0 ∷ 0 ∷ 0 ∷ 0 ∷ 0 ∷ 0 ∷ 0 ∷ 0 ∷ []) (1 ∷ 34 ∷ 35 ∷ 4294967295 ∷ []) (0 ∷ []) (1 ∷ 0 ∷ []) 14 (0 ∷ 0 ∷ 0 ∷ 0 ∷ 4 ∷ 32 ∷ 34 ∷ 35 ∷ 35 ∷ 5 ∷ 6 ∷ 32 ∷ 25 ∷ 26 ∷ 33 ∷ 28 ∷ 29 ∷ 0 ∷ 0 ∷ [])
    -- `%start q%%s:x %prec P;`: the same without its token: 33 of the `%prec` alone, at its name
    ∷ row (37 ∷ 115 ∷ 116 ∷ 97 ∷ 114 ∷ 116 ∷ 32 ∷ 113 ∷ 37 ∷ 37 ∷ 115 ∷ 58 ∷ 120 ∷ 32 ∷ 37 ∷ 112 ∷ 114 ∷ 101 ∷ 99 ∷ 32 ∷ 80 ∷ 59 ∷ []) (0 ∷ 0 ∷ 0 ∷ 0 ∷ 0 ∷ 0 ∷ 1 ∷ 1 ∷ 1 ∷ 0 ∷ []) (Some (7, 8)) ([]) ([]) ([]) ([]) ([]) ([]) (10 ∷ 11 ∷ 0 ∷ 0 ∷ 0 ∷ []) (0 ∷ 12 ∷ 21 ∷ 0 ∷ 1 ∷ 1 ∷ 20 ∷ 21 ∷ 0 ∷ 0 ∷ 0 ∷ 0 ∷ 0 ∷ []) (1 ∷ 12 ∷ 13 ∷ 4294967295 ∷ []) (0 ∷ []) (1 ∷ 0 ∷ []) 9 (0 ∷ 0 ∷ 0 ∷ 0 ∷ 3 ∷ 31 ∷ 7 ∷ 8 ∷ 33 ∷ 20 ∷ 21 ∷ 32 ∷ 12 ∷ 13 ∷ [])
    -- `%start q%%s:x %prec P;`: one cell too few: 42 and zeros
    ∷ row (37 ∷ 115 ∷ 116 ∷ 97 ∷ 114 ∷ 116 ∷ 32 ∷ 113 ∷ 37 ∷ 37 ∷ 115 ∷ 58 ∷ 120 ∷ 32 ∷ 37 ∷ 112 ∷ 114 ∷ 101 ∷ 99 ∷ 32 ∷ 80 ∷ 59 ∷ []) (1 ∷ 0 ∷ 0 ∷ 0 ∷ 0 ∷ 0 ∷ 1 ∷ 1 ∷ 1 ∷ 0 ∷ []) (Some (7, 8)) (20 ∷ 21 ∷ 0 ∷ []) ([]) ([]) ([]) ([]) ([]) (10 ∷ 11 ∷ 0 ∷ 0 ∷ 0 ∷ []) (0 ∷ 12 ∷ 21 ∷ 0 ∷ 1 ∷ 1 ∷ 20 ∷ 21 ∷ 0 ∷ 0 ∷ 0 ∷ 0 ∷ 0 ∷ []) (1 ∷ 12 ∷ 13 ∷ 4294967295 ∷ []) (0 ∷ 1 ∷ []) (1 ∷ 0 ∷ []) 8 (42 ∷ 0 ∷ 0 ∷ 14 ∷ 0 ∷ 0 ∷ 0 ∷ 0 ∷ 0 ∷ 0 ∷ 0 ∷ 0 ∷ 0 ∷ [])
    -- `%%s:x;`: a count too many: 44 and zeros
    ∷ row (37 ∷ 37 ∷ 115 ∷ 58 ∷ 120 ∷ 59 ∷ []) (1 ∷ 0 ∷ 0 ∷ 0 ∷ 0 ∷ 0 ∷ 1 ∷ 1 ∷ 1 ∷ 0 ∷ []) (Some (2, 3)) ([]) ([]) ([]) ([]) ([]) ([]) (2 ∷ 3 ∷ 0 ∷ 0 ∷ 0 ∷ []) (0 ∷ 4 ∷ 5 ∷ 0 ∷ 1 ∷ 0 ∷ 0 ∷ 0 ∷ 0 ∷ 0 ∷ 0 ∷ 0 ∷ 0 ∷ []) (1 ∷ 4 ∷ 5 ∷ 4294967295 ∷ []) (0 ∷ []) (1 ∷ 0 ∷ []) 4 (44 ∷ 0 ∷ 0 ∷ 0 ∷ 0 ∷ 0 ∷ 0 ∷ 0 ∷ 0 ∷ [])
    -- `%%s:;`: its rule in another slot: 44 and zeros
    ∷ row (37 ∷ 37 ∷ 115 ∷ 58 ∷ 59 ∷ []) (0 ∷ 0 ∷ 0 ∷ 0 ∷ 0 ∷ 0 ∷ 1 ∷ 1 ∷ 0 ∷ 0 ∷ []) (Some (2, 3)) ([]) ([]) ([]) ([]) ([]) ([]) (2 ∷ 3 ∷ 0 ∷ 0 ∷ 0 ∷ []) (0 ∷ 4 ∷ 4 ∷ 0 ∷ 0 ∷ 0 ∷ 0 ∷ 0 ∷ 0 ∷ 0 ∷ 0 ∷ 0 ∷ 0 ∷ []) ([]) (0 ∷ []) (0 ∷ 1 ∷ []) 4 (44 ∷ 0 ∷ 0 ∷ 0 ∷ 0 ∷ 0 ∷ 0 ∷ 0 ∷ 0 ∷ [])
    ∷ []

pub faults_hold : all (λ x. told (fault_listing x.src x.counts x.singles x.tables x.indexes x.list)) table ≡ true
unfolding all same table same_part has_name first_row find_name prec_of production_at zeros zeros_from below given_test action_test token_test prec_test name_test epp_test kind_test rule_test production_test repeat_test fresh_name table_test before range_test ranges_test singles_test hash_from hash_of next_slot stands row_stands filled index_test halved is_power size_test index_right indexes_test knows_test row_for named_row known_test tables_test sound_test upto known name_faults kind_faults kinds_faults production_faults rule_faults rules_faults epp_faults epps_faults faults fault_listing
faults_hold = refl
