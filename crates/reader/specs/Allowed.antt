-- What the contract of `read` allows, and what document 01 says of the tables after each answer.
use Rattle.std.specs.Prelude.{ℕ, ◌+◌, ◌<◌, ◌≡◌, List, get_or, Ok, Err, Result}
use Rattle.tables.specs.Table.{zeroed}
use Rattle.tables.specs.Layout.{repeats, posix_from}
use Rattle.grammar.specs.declared.Refusal.{Refusal}
use Rattle.grammar.specs.declared.Refusal.TheVariants.{Fault, Repeated, NoRoom, TooLong, BadKind, BadIndex}
use Rattle.grammar.specs.State.{no_posix, no_singles}
use Rattle.grammar.specs.Sound.{AllTables, Indexes, cells_of}
use Rattle.reader.specs.Read.{ReadResult, read_all}

-- "Any two outcomes allowed by it are proved equal": an outcome that the contract of `read` allows, on tables that held T and indexes that held X
abbrev pub Allowed : List ℕ → ℕ → AllTables → Indexes → ReadResult → Type 0
Allowed src kind T X o = o ≡ read_all src kind T X

-- "With repeats only, the number is the first repeat's": no fatal refusal
abbrev pub RepeatsOnly : Refusal → Type 0
RepeatsOnly (Fault c i) = ⊥
RepeatsOnly (Repeated what a b) = Unit {0}
RepeatsOnly (NoRoom t a b) = ⊥
RepeatsOnly TooLong = ⊥
RepeatsOnly BadKind = ⊥
RepeatsOnly BadIndex = ⊥

-- "all tables hold the full reading": accepted, or refused for repeats only
abbrev pub Full : Result ℕ Refusal → Type 0
Full (Ok i) = Unit {0}
Full (Err f) = RepeatsOnly f

-- "After 1 to 15, 40 to 43, tables 1 to 9 and their counts are zero, the singles absent.": with document 02, request Four, after 1 to 19
pub record Cleared (T : AllTables) (X : Indexes) (o : ReadResult) : Type 0 where
  pub tables : (k : ℕ) → k < repeats → cells_of o.tables k ≡ zeroed (cells_of T k)
  pub counts : (k : ℕ) → k < repeats → get_or o.counts.n k 0 ≡ 0
  -- request Nine, of tables 15 to 17 and their counts: "they are zero where 1 to 9 are"
  pub posix_tables : (k : ℕ) → k < 3 → cells_of o.tables (posix_from + k) ≡ zeroed (cells_of T (posix_from + k))
  pub posix : o.posix ≡ no_posix
  pub singles : o.singles ≡ no_singles
  -- document 02: "both indexes" too, also after 45
  pub token_index : o.indexes.tokens ≡ zeroed X.tokens
  pub rule_index : o.indexes.rules ≡ zeroed X.rules

-- Tables 15 to 17 and their counts without anything in them, as kinds 1 to 3 leave them whatever the answer.
pub record PosixCleared (T : AllTables) (o : ReadResult) : Type 0 where
  pub tables : (k : ℕ) → k < 3 → cells_of o.tables (posix_from + k) ≡ zeroed (cells_of T (posix_from + k))
  pub counts : o.posix ≡ no_posix
