-- Document 02, request Six: "One operation reads and, where that gives 0, validates; its number is the first that isn't 0, and tables stay as read after a validation refusal. [..] Its place in an accepted
-- answer is the read's."
use Rattle.std.specs.Prelude.{ℕ, ◌≡◌, List, [], ◌∷◌, ◌++◌, Ok, Err, Result}
use Rattle.grammar.specs.declared.Counts.{Counts}
use Rattle.grammar.specs.declared.PosixCounts.{PosixCounts}
use Rattle.grammar.specs.declared.Singles.{Singles}
use Rattle.grammar.specs.Numbers.{refusal_numbers}
use Rattle.grammar.specs.Sound.{AllTables, ten_of, Indexes}
use Rattle.grammar.specs.declared.Refusal.{Refusal}
use Rattle.reader.specs.Read.{ReadResult, read_all}
use Rattle.reader.specs.Allowed.{RepeatsOnly}
use Rattle.validation.specs.declared.ValidityError.{ValidityError}
use Rattle.validation.specs.declared.ValidityError.TheVariants.{UnsoundTables, Invalid}
use Rattle.validation.specs.Faults.{flaw_numbers, validity}
use Rattle.loading.specs.declared.LoadError.{LoadError}
use Rattle.loading.specs.declared.LoadError.TheVariants.{NotRead, NotValid}

-- what validation says of a reading that ended at i. It never says there that the tables are unsound, so the last line does not come up: `load_loaded` says that what is loaded is valid.
abbrev pub fitted : ℕ → Result (Unit {0}) ValidityError → Result ℕ LoadError
fitted i (Ok _) = Ok i
fitted i (Err (Invalid f)) = Err (NotValid f)
fitted i (Err UnsoundTables) = Ok i

-- what the read came to, and behind an accepted one what validation says
abbrev pub judged : Result ℕ Refusal → Result (Unit {0}) ValidityError → Result ℕ LoadError
judged (Err f) v = Err (NotRead f)
judged (Ok i) v = fitted i v

-- number, place, table number: the end reached, or the refusal's, or the flaw's
abbrev pub judgement_numbers : Result ℕ LoadError → List ℕ
judgement_numbers (Ok i) = 0 ∷ i ∷ i ∷ 0 ∷ []
judgement_numbers (Err (NotRead f)) = refusal_numbers f
judgement_numbers (Err (NotValid f)) = flaw_numbers f ++ (0 ∷ [])

-- what a load answers, and what it leaves in the tables and indexes
pub record LoadResult : Type 0 where
  pub answer : Result ℕ LoadError
  pub counts : Counts
  pub posix : PosixCounts
  pub singles : Singles
  pub tables : AllTables
  pub indexes : Indexes

abbrev pub judged_read : List ℕ → ReadResult → LoadResult
judged_read src o =
    record {
      answer = judged o.answer (validity src o.counts o.singles (ten_of o.tables) o.indexes);
      counts = o.counts;
      posix = o.posix;
      singles = o.singles;
      tables = o.tables;
      indexes = o.indexes;
    }

unfoldable pub load_all : List ℕ → ℕ → AllTables → Indexes → LoadResult
load_all src kind T X = judged_read src (read_all src kind T X)

-- "Any two outcomes allowed by it are proved equal": an outcome that the contract of `load` allows, on tables that held T and indexes that held X
abbrev pub Allows : List ℕ → ℕ → AllTables → Indexes → LoadResult → Type 0
Allows src kind T X o = o ≡ load_all src kind T X

-- the answers after which the tables hold a full reading: loaded, not valid, and not read for repeats only
abbrev pub FullLoad : Result ℕ LoadError → Type 0
FullLoad (Ok i) = Unit {0}
FullLoad (Err (NotRead f)) = RepeatsOnly f
FullLoad (Err (NotValid f)) = Unit {0}
