-- Request Twelve, loading: "Loading those blocks, with room and indexes of a right size, gives back the same tables and source and fills the indexes"; "tables, indexes and source zero after each" refusal.
use Rattle.std.specs.Prelude.{ℕ, ◌+◌, ◌≡◌, List, [], ◌∷◌, ◌++◌, Bool, true, false, length, get_or, take, drop, None, Result, Ok, Err}
use Rattle.std.proofs.Math.Seq.{slice}
use Rattle.blocks.specs.Blocks.{words_in, content_of}
use Rattle.tables.specs.Table.{zeroed}
use Rattle.tables.specs.Layout.{tokens, rules, width}
use Rattle.index.specs.Index.{entries}
use Rattle.grammar.specs.declared.Counts.{Counts}
use Rattle.grammar.specs.declared.PosixCounts.{PosixCounts}
use Rattle.grammar.specs.declared.Singles.{Singles}
use Rattle.grammar.specs.Sound.{AllTables, Indexes, zero_all}
use Rattle.sections.specs.Sections.{sized}
use Rattle.catalogue.specs.declared.Head.{Head}
use Rattle.catalogue.specs.declared.FindingError.{FindingError}
use Rattle.catalogue.specs.declared.FindingError.TheVariants.{NoWholeBlocks, FaultyNumber, FaultyCheck, Unfilled, WrongSize, NoRoom}
use Rattle.catalogue.specs.Catalogue.{cells_at, rows_from, head_in, lengths_of, examined, sound_reading}
use Rattle.restoring.specs.declared.RestoringError.{RestoringError}
use Rattle.restoring.specs.declared.RestoringError.TheVariants.{NotWhole, BadNumber, BadCheck, BadContent, BadSizes, NoSpace, RestoringUnsound}

-- what loading answers and leaves
pub record Restored : Type 0 where
  pub answer : Result (Unit {0}) RestoringError
  pub head : Head
  pub source : List ℕ
  pub tables : AllTables
  pub indexes : Indexes

abbrev pub no_head : Head
no_head =
    record {
      kind = 0;
      counts = record { n = 0 ∷ 0 ∷ 0 ∷ 0 ∷ 0 ∷ 0 ∷ 0 ∷ 0 ∷ 0 ∷ 0 ∷ [] };
      posix = record { n = 0 ∷ 0 ∷ 0 ∷ [] };
      length = 0;
      singles = record { start = None; expect = None; expect_rr = None; param = None; generics = None; programs = None };
    }

abbrev pub clear_indexes : Indexes → Indexes
clear_indexes X = record { tokens = zeroed X.tokens; rules = zeroed X.rules }

-- after a refusal nothing is left
abbrev pub cleared_out : Result (Unit {0}) RestoringError → List ℕ → AllTables → Indexes → Restored
cleared_out a S T X = record { answer = a; head = no_head; source = zeroed S; tables = zero_all T; indexes = clear_indexes X }

-- a table's rows from the content b, in front of the cells that it has
unfoldable pub filled_table : List ℕ → Counts → PosixCounts → ℕ → List ℕ → List ℕ
filled_table b c p k t = words_in b (rows_from c p k) (cells_at c p k) ++ drop (cells_at c p k) t

abbrev pub filled_tables : List ℕ → Counts → PosixCounts → AllTables → AllTables
filled_tables b c p T =
    record { t1 = filled_table b c p 0 T.t1; t2 = filled_table b c p 1 T.t2; t3 = filled_table b c p 2 T.t3; t4 = filled_table b c p 3 T.t4; t5 = filled_table b c p 4 T.t5; t6 = filled_table b c p 5 T.t6; t7 = filled_table b c p 6 T.t7; t8 = filled_table b c p 7 T.t8; t9 = filled_table b c p 8 T.t9; t10 = filled_table b c p 9 T.t10; t15 = filled_table b c p 10 T.t15; t16 = filled_table b c p 11 T.t16; t17 = filled_table b c p 12 T.t17 }

unfoldable pub filled_source : List ℕ → Counts → PosixCounts → ℕ → List ℕ → List ℕ
filled_source b c p n S = slice (rows_from c p 13) (rows_from c p 13 + n) b ++ drop n S

-- the indexes of m and n slots as entering the rows gives them
abbrev pub entered_indexes : List ℕ → Counts → AllTables → ℕ → ℕ → Indexes
entered_indexes src c T m n = record { tokens = entries src (width tokens) 0 T.t1 m (get_or c.n tokens 0); rules = entries src (width rules) 0 T.t7 n (get_or c.n rules 0) }

-- the indexes are entered, and the answer tells whether all is sound then
pub record Tested (src : List ℕ) (c : Counts) (p : PosixCounts) (g : Singles) (T : AllTables) (m n : ℕ) (r : Bool) (X : Indexes) : Type 0 where
  pub indexes : X ≡ entered_indexes src c T m n
  pub sound : r ≡ sound_reading src c p g T (entered_indexes src c T m n)

-- what was filled stays where it is sound
abbrev pub kept_if : Bool → Head → List ℕ → AllTables → Indexes → Restored
kept_if true h S T X = record { answer = Ok tt; head = h; source = S; tables = T; indexes = X }
kept_if false h S T X = cleared_out (Err RestoringUnsound) S T X

unfoldable pub filled_from : List ℕ → Head → List ℕ → AllTables → Indexes → Restored
filled_from b h S T X =
    let T' = filled_tables b h.counts h.posix T in
    let S' = filled_source b h.counts h.posix h.length S in
    let src = take h.length S' in
    let X' = entered_indexes src h.counts T' (length X.tokens) (length X.rules) in
    kept_if (sound_reading src h.counts h.posix h.singles T' X') h S' T' X'

abbrev pub restored_as : Result (Unit {0}) FindingError → List ℕ → List ℕ → AllTables → Indexes → Restored
restored_as (Ok _) s S T X = filled_from (content_of s) (head_in s) (zeroed S) (zero_all T) (clear_indexes X)
restored_as (Err NoWholeBlocks) s S T X = cleared_out (Err NotWhole) S T X
restored_as (Err FaultyNumber) s S T X = cleared_out (Err BadNumber) S T X
restored_as (Err FaultyCheck) s S T X = cleared_out (Err BadCheck) S T X
restored_as (Err Unfilled) s S T X = cleared_out (Err BadContent) S T X
restored_as (Err WrongSize) s S T X = cleared_out (Err BadSizes) S T X
restored_as (Err (NoRoom k)) s S T X = cleared_out (Err (NoSpace k)) S T X

unfoldable pub restored : List ℕ → List ℕ → AllTables → Indexes → Restored
restored s S T X = restored_as (examined s (sized T X) (lengths_of T) (length S)) s S T X

-- number, place and table: "60 length zero or no multiple of 512, then block by block 61 wrong number and 62 wrong check, then 63 [..], 45, 42 (lowest table first, source 19), 44, all at 0..0"
abbrev pub restoring_numbers : Result (Unit {0}) RestoringError → List ℕ
restoring_numbers (Ok _) = 0 ∷ 0 ∷ 0 ∷ 0 ∷ []
restoring_numbers (Err NotWhole) = 60 ∷ 0 ∷ 0 ∷ 0 ∷ []
restoring_numbers (Err BadNumber) = 61 ∷ 0 ∷ 0 ∷ 0 ∷ []
restoring_numbers (Err BadCheck) = 62 ∷ 0 ∷ 0 ∷ 0 ∷ []
restoring_numbers (Err BadContent) = 63 ∷ 0 ∷ 0 ∷ 0 ∷ []
restoring_numbers (Err BadSizes) = 45 ∷ 0 ∷ 0 ∷ 0 ∷ []
restoring_numbers (Err (NoSpace k)) = 42 ∷ 0 ∷ 0 ∷ k ∷ []
restoring_numbers (Err RestoringUnsound) = 44 ∷ 0 ∷ 0 ∷ 0 ∷ []
