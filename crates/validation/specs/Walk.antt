-- Document 02, request One: "a list of all faults it tests for: number and place, one entry for each test that fails, in validation's own order". The walk over the tests
-- that writes each fault as a row of table 14, and what the list of all faults gives.
use Rattle.std.specs.Prelude.{ℕ, ◌+◌, ◌*◌, ◌-◌, ◌/◌, ◌<◌, ◌≤◌, List, [], ◌∷◌, ◌++◌, Bool, true, false, not, ◌||◌, eqb, ltb, leb, length, replicate, Result, Ok, Err}
use Rattle.tables.specs.Table.{cell, put, zeroed}
use Rattle.tables.specs.Layout.{tokens, precedences, implicit, rules, productions, symbols, epps, unused, width, fault_width, kind_name, known_row, no_row}
use Rattle.index.specs.Index.{Indexed}
use Rattle.finder.specs.Finder.{Led}
use Rattle.symbols.specs.Symbols.{lexicon, Knows}
use Rattle.productions.specs.Cells.{production_at, gives_prec}
use Rattle.grammar.specs.declared.Counts.{Counts}
use Rattle.grammar.specs.declared.Singles.{Singles}
use Rattle.grammar.specs.Sound.{Tables, Indexes}
use Rattle.sound.specs.Test.{count_at, sound_test}
use Rattle.validation.specs.Faults.{fault_cells, upto, faults}
use Rattle.validation.specs.declared.Flaw.{Flaw}
use Rattle.validation.specs.declared.Flaw.TheVariants.{UnknownRuleRef, UnknownTokenRef}
use Rattle.validation.specs.declared.ValidityError.{ValidityError}
use Rattle.validation.specs.declared.ValidityError.TheVariants.{Invalid}
use Rattle.validation.specs.declared.FaultsError.{FaultsError}
use Rattle.validation.specs.declared.FaultsError.TheVariants.{FaultsUnsound, FaultsNoRoom}

-- ---- what names are looked up by

-- the start rule by the index of n rules
abbrev pub RuleNames : List ℕ → ℕ → List ℕ → List ℕ → Type 0
RuleNames src n t7 i7 = Indexed src (width rules) 0 n t7 i7

-- the others by a working finder: a `%prec` where it leads to the n tokens and the m precedences
abbrev pub PrecNames : List ℕ → List ℕ → ℕ → List ℕ → ℕ → List ℕ → Type 0
PrecNames src t1 n t2 m fx = Led src (width tokens) 0 n t1 fx × Led src (width precedences) 0 m t2 fx

-- an expected unused name where it leads to the n tokens and the m rules
abbrev pub SymbolNames : List ℕ → List ℕ → ℕ → List ℕ → ℕ → List ℕ → Type 0
SymbolNames src t1 n t7 m fx = Led src (width tokens) 0 n t1 fx × Led src (width rules) 0 m t7 fx

-- and the key of an `%epp` where it leads to the n tokens and the m implicit ones
abbrev pub KeyNames : List ℕ → List ℕ → ℕ → List ℕ → ℕ → List ℕ → Type 0
KeyNames src t1 n t4 m fx = Led src (width tokens) 0 n t1 fx × Led src (width implicit) 0 m t4 fx

-- one finder of all: it leads to every token, precedence, implicit token and rule
pub record AllNames (src : List ℕ) (c : Counts) (t1 t2 t4 t7 fx : List ℕ) : Type 0 where
  pub tokens : Led src (width tokens) 0 (count_at c tokens) t1 fx
  pub precedences : Led src (width precedences) 0 (count_at c precedences) t2 fx
  pub implicit : Led src (width implicit) 0 (count_at c implicit) t4 fx
  pub rules : Led src (width rules) 0 (count_at c rules) t7 fx

-- whether a name is looked up behind the start: an `%epp` key, an expected unused name or a `%prec`
abbrev pub looks_up : Counts → List ℕ → Bool
looks_up c t8 = (not (eqb (count_at c epps) 0) || not (eqb (count_at c unused) 0)) || gives_prec t8 (count_at c productions)

-- document 02, request Five, "The report, validation and the fault list each look a symbol up again": the symbols of the first n productions know their rows
pub record SymbolsKnown (src t1 : List ℕ) (tokens : ℕ) (t7 : List ℕ) (rules : ℕ) (t8 t9 : List ℕ) (n : ℕ) : Type 0 where
  pub count : ℕ
  pub rows : Knows (lexicon src t1 tokens t7 rules) count t9
  pub inside : (r : ℕ) → r < n → (production_at t8 r).last ≤ count

-- what the walk goes by: the index of all rules, and the rows of all symbols
pub record Walkable (src : List ℕ) (c : Counts) (t1 t7 t8 t9 i7 : List ℕ) : Type 0 where
  pub symbols : SymbolsKnown src t1 (count_at c tokens) t7 (count_at c rules) t8 t9 (count_at c productions)
  pub rules : Indexed src (width rules) 0 (count_at c rules) t7 i7

-- the fault of a symbol by its own cell, and those of symbols from one up to another
unfoldable pub symbol_faults : List ℕ → ℕ → List Flaw
symbol_faults t9 s = elim (eqb (at known_row) no_row) [ true ↦ elim (eqb (at 0) 1) [ true ↦ UnknownRuleRef (at kind_name) (at (kind_name + 1)) ∷ [] | false ↦ UnknownTokenRef (at kind_name) (at (kind_name + 1)) ∷ [] ] | false ↦ [] ]
  where
    at : ℕ → ℕ
    at k = cell (width symbols) t9 s k

unfoldable pub symbols_faults : List ℕ → ℕ → ℕ → List Flaw
symbols_faults t9 from to = upto (to - from) (λ i. symbol_faults t9 (from + i))

-- ---- the walk: how far it came, and table 14

-- the faults of one test
abbrev pub failing : Result (Unit {0}) Flaw → List Flaw
failing (Ok _) = []
failing (Err f) = f ∷ []

-- what validation says of a test that comes first
abbrev pub verdict : Result (Unit {0}) Flaw → Result (Unit {0}) ValidityError
verdict (Ok _) = Ok tt
verdict (Err f) = Err (Invalid f)

pub record Walked : Type 0 where
  pub answer : Result ℕ Flaw
  pub cells : List ℕ

-- whether row `at` of table 14 is free
unfoldable pub fits : ℕ → List ℕ → Bool
fits at t = ltb at (length t / fault_width)

-- each fault takes the next row; the first that has none ends the walk
unfoldable pub noted : List Flaw → ℕ → List ℕ → Walked
noted [] at t = record { answer = Ok at; cells = t }
noted (f ∷ fs) at t = elim (fits at t) [ true ↦ noted fs (at + 1) (put t (at * fault_width) (fault_cells f)) | false ↦ record { answer = Err f; cells = t } ]

-- ---- the list of all faults

-- the rows of table 14, one behind the other
abbrev pub fault_rows : List Flaw → List ℕ
fault_rows [] = []
fault_rows (f ∷ fs) = fault_cells f ++ fault_rows fs

pub record AllFaults : Type 0 where
  pub answer : Result ℕ FaultsError
  pub cells : List ℕ

-- "42 with table 14 and place 0..0; the list is zero after either": all rows and then zeros, or zeros alone
abbrev pub all_faults_if : Bool → List Flaw → List ℕ → AllFaults
all_faults_if true fs t = record { answer = Ok (length fs); cells = fault_rows fs ++ replicate (length t - length fs * fault_width) 0 }
all_faults_if false fs t = record { answer = Err FaultsNoRoom; cells = zeroed t }

abbrev pub all_faults : List Flaw → List ℕ → AllFaults
all_faults fs t = all_faults_if (leb (length fs * fault_width) (length t)) fs t

-- "44 first"
unfoldable pub fault_listing : List ℕ → Counts → Singles → Tables → Indexes → List ℕ → AllFaults
fault_listing src c g T X t =
    elim (sound_test src c g T X) [
      | true ↦ all_faults (faults src c g T.t1 T.t2 T.t4 T.t5 T.t6 T.t7 T.t8 T.t9) t
      | false ↦ record { answer = Err FaultsUnsound; cells = zeroed t }
    ]

-- how many tests there are: the start, and one for each production's `%prec`, symbol, `%epp` key and expected unused name
abbrev pub tests_of : Counts → ℕ
tests_of c = 1 + (count_at c productions + (count_at c symbols + (count_at c epps + count_at c unused)))

-- number, place, table number and count, as the report answers them
abbrev pub fault_listing_numbers : Result ℕ FaultsError → List ℕ
fault_listing_numbers (Ok n) = 0 ∷ 0 ∷ 0 ∷ 0 ∷ n ∷ []
fault_listing_numbers (Err FaultsUnsound) = 44 ∷ 0 ∷ 0 ∷ 0 ∷ 0 ∷ []
fault_listing_numbers (Err FaultsNoRoom) = 42 ∷ 0 ∷ 0 ∷ 14 ∷ 0 ∷ []
