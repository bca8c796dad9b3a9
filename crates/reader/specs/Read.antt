-- Document 01, "Numbers given back": what a read comes to, and what it leaves of the tables.
use Rattle.std.specs.Prelude.{ℕ, ◌+◌, List, [], ◌∷◌, true, false, eqb, length, get_or, Result, Ok, Err}
use Rattle.tables.specs.Table.{zeroed, cell}
use Rattle.tables.specs.Layout.{tokens, rules, symbols, repeats, first_place, width}
use Rattle.index.specs.Index.{entries}
use Rattle.grammar.specs.declared.Counts.{Counts}
use Rattle.grammar.specs.declared.PosixCounts.{PosixCounts}
use Rattle.grammar.specs.declared.Singles.{Singles}
use Rattle.grammar.specs.declared.State.{State}
use Rattle.grammar.specs.declared.Refusal.{Refusal}
use Rattle.grammar.specs.declared.Refusal.TheVariants.{Repeated}
use Rattle.grammar.specs.declared.Answer.{Answer}
use Rattle.grammar.specs.declared.Answer.TheVariants.{Going, Done, Refused}
use Rattle.grammar.specs.Refusals.{repeat_of}
use Rattle.grammar.specs.Numbers.{refusal_numbers}
use Rattle.grammar.specs.State.{count, no_posix, no_singles}
use Rattle.symbols.specs.Symbols.{filled_rows}
use Rattle.grammar.specs.Sound.{AllTables, ten_of, Indexes, lexicon_of, zero_all}
use Rattle.sections.specs.Sections.{Run, sized, attempted}
use Rattle.reader.specs.declared.Reading.{Reading}

-- "A read's answer holds number, place, table number [..], and the ten counts [..] besides" the singles; and the tables it left
pub record Outcome : Type 0 where
  pub answer : Result ℕ Refusal
  pub counts : Counts
  pub posix : PosixCounts
  pub singles : Singles
  pub tables : AllTables

-- and the indexes
pub record ReadResult : Type 0 where
  pub answer : Result ℕ Refusal
  pub counts : Counts
  pub posix : PosixCounts
  pub singles : Singles
  pub tables : AllTables
  pub indexes : Indexes

-- document 01's number, place and table of each answer: "0 accepted: end reached, twice"
abbrev pub verdict_numbers : Result ℕ Refusal → List ℕ
verdict_numbers (Ok i) = 0 ∷ i ∷ i ∷ 0 ∷ []
verdict_numbers (Err f) = refusal_numbers f

-- "After 1 to 15, 40 to 43, tables 1 to 9 and their counts are zero, the singles absent", and with document 02, request Four, after 16 to 19; "repeats met before
-- it stay listed"
abbrev pub only_repeats : ℕ → Counts
only_repeats n = record { n = 0 ∷ 0 ∷ 0 ∷ 0 ∷ 0 ∷ 0 ∷ 0 ∷ 0 ∷ 0 ∷ n ∷ [] }

abbrev pub stopped_at : State → Refusal → Reading
stopped_at s f = record { answer = Err f; counts = only_repeats (count s repeats); posix = no_posix; singles = no_singles }

-- "With repeats only, the number is the first repeat's, and all tables hold the full reading": its first place
unfoldable pub ended_at : State → List ℕ → Reading
ended_at s t10 =
    elim (eqb (count s repeats) 0) [
      | true ↦ record { answer = Ok s.at; counts = s.counts; posix = s.posix; singles = s.singles }
      | false ↦ record { answer = Err (Repeated (repeat_of (cell (width repeats) t10 0 0)) (cell (width repeats) t10 0 first_place) (cell (width repeats) t10 0 (first_place + 1))); counts = s.counts; posix = s.posix; singles = s.singles }
    ]

-- all but table 10, those of kind 4 too: "they are zero where 1 to 9 are"
abbrev pub clear_twelve : AllTables → AllTables
clear_twelve T = record { t1 = zeroed T.t1; t2 = zeroed T.t2; t3 = zeroed T.t3; t4 = zeroed T.t4; t5 = zeroed T.t5; t6 = zeroed T.t6; t7 = zeroed T.t7; t8 = zeroed T.t8; t9 = zeroed T.t9; t10 = T.t10; t15 = zeroed T.t15; t16 = zeroed T.t16; t17 = zeroed T.t17 }

abbrev pub result : Reading → AllTables → Outcome
result r T = record { answer = r.answer; counts = r.counts; posix = r.posix; singles = r.singles; tables = T }

abbrev pub finished : Answer → State → AllTables → Outcome
finished Going s T = result (ended_at s T.t10) T
finished Done s T = result (ended_at s T.t10) T
finished (Refused f) s T = result (stopped_at s f) (clear_twelve T)

abbrev pub finished_run : Run → Outcome
finished_run r = finished r.answer r.state r.tables

-- an index is "exactly what entering its table's rows in order gives", whatever the answer: after a refusal that left no row, all zero
abbrev pub indexed : List ℕ → Indexes → Outcome → ReadResult
indexed src X o =
    record {
      answer = o.answer;
      counts = o.counts;
      posix = o.posix;
      singles = o.singles;
      tables = o.tables;
      indexes =
          record {
            tokens = entries src (width tokens) 0 o.tables.t1 (length X.tokens) (get_or o.counts.n tokens 0);
            rules = entries src (width rules) 0 o.tables.t7 (length X.rules) (get_or o.counts.n rules 0);
          };
    }

-- The read but for the symbols' rows: on tables of zeros, and on indexes of which the sizes alone matter.
unfoldable pub read_names : List ℕ → ℕ → AllTables → Indexes → ReadResult
read_names src kind T X = indexed src X (finished_run (attempted src kind (sized T X) (zero_all T)))

-- Document 02, request Five: "An accepted reading has it filled, also for rules defined further down, and a reading with only repeats too."; a refusal leaves no symbol to fill.
abbrev pub with_symbols : AllTables → List ℕ → AllTables
with_symbols T t9 = record { t1 = T.t1; t2 = T.t2; t3 = T.t3; t4 = T.t4; t5 = T.t5; t6 = T.t6; t7 = T.t7; t8 = T.t8; t9 = t9; t10 = T.t10; t15 = T.t15; t16 = T.t16; t17 = T.t17 }

abbrev pub filled_out : List ℕ → Outcome → Outcome
filled_out src o =
    record {
      answer = o.answer;
      counts = o.counts;
      posix = o.posix;
      singles = o.singles;
      tables = with_symbols o.tables (filled_rows (lexicon_of src o.counts (ten_of o.tables)) o.tables.t9 (get_or o.counts.n symbols 0));
    }

abbrev pub filled_in : List ℕ → ReadResult → ReadResult
filled_in src o =
    record {
      answer = o.answer;
      counts = o.counts;
      posix = o.posix;
      singles = o.singles;
      tables = with_symbols o.tables (filled_rows (lexicon_of src o.counts (ten_of o.tables)) o.tables.t9 (get_or o.counts.n symbols 0));
      indexes = o.indexes;
    }

-- the read
unfoldable pub read_all : List ℕ → ℕ → AllTables → Indexes → ReadResult
read_all src kind T X = filled_in src (read_names src kind T X)
