-- Document 02, request Eight: the pruned tables, by the work bits: every cell is determined. "Rows close up in their old order, freed rows are zero [..], and stored row
-- numbers and indexes follow."
use Rattle.std.specs.Prelude.{ℕ, zero, suc, ◌+◌, ◌-◌, ◌≤◌, ◌<◌, ◌≡◌, List, [], ◌∷◌, ◌++◌, Bool, true, false, eqb, length, get_or, set, Option, Some, None, Result, Ok, Err}
use Rattle.tables.specs.Table.{cell, find_name, zeroed}
use Rattle.tables.specs.Rows.{row_at}
use Rattle.tables.specs.Layout.{tokens, avoided, epps, rules, productions, symbols, key_name, rule_row, symbols_from, symbols_to, known_row, width}
use Rattle.index.specs.Index.{entries}
use Rattle.grammar.specs.declared.Counts.{Counts}
use Rattle.grammar.specs.declared.Singles.{Singles}
use Rattle.grammar.specs.Sound.{Tables, Indexes}
use Rattle.sound.specs.Test.{count_at}
use Rattle.validation.specs.declared.ValidityError.{ValidityError}
use Rattle.validation.specs.declared.ValidityError.TheVariants.{UnsoundTables, Invalid}
use Rattle.validation.specs.Faults.{flaw_numbers, validity}
use Rattle.reach.specs.Reach.{Grammar, token_sort, need}
use Rattle.usage.specs.Report.{Excuses}
use Rattle.closing.specs.Close.{Step, kept_rows, rank, table_of, by_bit, closed}
use Rattle.pruning.specs.declared.PruningError.{PruningError}
use Rattle.pruning.specs.declared.PruningError.TheVariants.{PruningUnsound, PruningInvalid, PruningNoWords}
use Rattle.pruning.specs.Stays.{StayWork}
use Rattle.pruning.specs.Again.{grammar_in, excuses_in}

-- whether a rule stays, by its old number,
abbrev pub rule_stays : List ℕ → ℕ → Bool
rule_stays ws r = by_bit ws 0 r

-- and a token, whose bits begin behind the rules' words
abbrev pub token_stays : Counts → List ℕ → ℕ → Bool
token_stays c ws t = by_bit ws (token_sort c).base t

-- "Avoid and `%epp` rows of dropped tokens go": a row's name is that of a token that stays, or of no token
abbrev pub found_stays : Option ℕ → Counts → List ℕ → Bool
found_stays (Some t) c ws = token_stays c ws t
found_stays None c ws = true

-- the name from a to b
unfoldable pub name_stays : List ℕ → Counts → List ℕ → List ℕ → ℕ → ℕ → Bool
name_stays src c t1 ws a b = found_stays (find_name src (width tokens) 0 (count_at c tokens) t1 a b) c ws

-- row r of table 3 or 5, whose rows are w wide, the name being in the cells k and k + 1
unfoldable pub row_stays : List ℕ → Counts → List ℕ → List ℕ → ℕ → ℕ → List ℕ → ℕ → Bool
row_stays src c t1 ws w k t r = name_stays src c t1 ws (cell w t r k) (cell w t r (k + 1))

-- a production stays with its rule
unfoldable pub production_stays : List ℕ → List ℕ → ℕ → Bool
production_stays ws t8 p = rule_stays ws (cell (width productions) t8 p rule_row)

-- a production with its rule's new number,
abbrev pub renumbered_rule : List ℕ → List ℕ → List ℕ
renumbered_rule ws x = set x rule_row (rank (rule_stays ws) (get_or x rule_row 0))

-- and one whose symbols begin at e, as many as it has
abbrev pub rechained : ℕ → List ℕ → List ℕ
rechained e x = set (set x symbols_from e) symbols_to (e + (get_or x symbols_to 0 - get_or x symbols_from 0))

-- productions so changed, the symbols of each behind those of the one before, the first one's at e
unfoldable pub chained : List ℕ → ℕ → List (List ℕ) → List (List ℕ)
chained ws e [] = []
chained ws e (x ∷ xs) = rechained e (renumbered_rule ws x) ∷ chained ws (e + (get_or x symbols_to 0 - get_or x symbols_from 0)) xs

-- "1 rule, 2 token": the new number of row r of a symbol's kind; symbols of valid tables have a row, so 4294967295 needs no case
unfoldable pub new_number : Counts → List ℕ → ℕ → ℕ → ℕ
new_number c ws kind r = elim (eqb kind 1) [ true ↦ rank (rule_stays ws) r | false ↦ rank (token_stays c ws) r ]

-- a symbol with the new number of its rule or token
abbrev pub renumbered_symbol : Counts → List ℕ → List ℕ → List ℕ
renumbered_symbol c ws x = set x known_row (new_number c ws (get_or x 0 0) (get_or x known_row 0))

-- n symbols so changed, from symbol s on
unfoldable pub renumbered_symbols : Counts → List ℕ → List ℕ → ℕ → ℕ → List (List ℕ)
renumbered_symbols c ws t9 s zero = []
renumbered_symbols c ws t9 s (suc n) = renumbered_symbol c ws (row_at (width symbols) t9 s) ∷ renumbered_symbols c ws t9 (s + 1) n

-- those of productions, one behind the other
unfoldable pub symbols_of : Counts → List ℕ → List ℕ → List (List ℕ) → List (List ℕ)
symbols_of c ws t9 [] = []
symbols_of c ws t9 (x ∷ xs) = renumbered_symbols c ws t9 (get_or x symbols_from 0) (get_or x symbols_to 0 - get_or x symbols_from 0) ++ symbols_of c ws t9 xs

-- table 1 closed up,
abbrev pub tokens_left : Counts → List ℕ → List ℕ → Step
tokens_left c t1 ws = closed (token_stays c ws) (width tokens) (count_at c tokens) t1

-- table 3,
abbrev pub avoided_left : List ℕ → Counts → List ℕ → List ℕ → List ℕ → Step
avoided_left src c t1 t3 ws = closed (row_stays src c t1 ws (width avoided) 0 t3) (width avoided) (count_at c avoided) t3

-- table 5, by the keys' names,
abbrev pub epps_left : List ℕ → Counts → List ℕ → List ℕ → List ℕ → Step
epps_left src c t1 t5 ws = closed (row_stays src c t1 ws (width epps) key_name t5) (width epps) (count_at c epps) t5

-- and table 7
abbrev pub rules_left : Counts → List ℕ → List ℕ → Step
rules_left c t7 ws = closed (rule_stays ws) (width rules) (count_at c rules) t7

-- the productions that stay, as they were,
abbrev pub productions_left : Counts → List ℕ → List ℕ → List (List ℕ)
productions_left c t8 ws = kept_rows (production_stays ws t8) (width productions) (count_at c productions) t8

-- and their symbols, by new numbers
abbrev pub symbols_left : Counts → List ℕ → List ℕ → List ℕ → List (List ℕ)
symbols_left c t8 t9 ws = symbols_of c ws t9 (productions_left c t8 ws)

-- an index holds what entering the rows left gives; its slots keep their number
abbrev pub index_left : List ℕ → ℕ → Step → List ℕ → List ℕ
index_left src w s ix = entries src w 0 s.cells (length ix) s.count

-- the counts, six of them changed
abbrev pub counts_left : Counts → ℕ → ℕ → ℕ → ℕ → ℕ → ℕ → Counts
counts_left c a b d e f g = record { n = set (set (set (set (set (set c.n tokens a) avoided b) epps d) rules e) productions f) symbols g }

-- what pruning leaves
pub record Pruned : Type 0 where
  pub counts : Counts
  pub tables : Tables
  pub indexes : Indexes

-- "precedences stay", and so do tables 4, 6 and 10
unfoldable pub pruned : List ℕ → Counts → Tables → Indexes → List ℕ → Pruned
pruned src c T X ws =
    record {
      counts = counts_left c (tokens_left c T.t1 ws).count (avoided_left src c T.t1 T.t3 ws).count (epps_left src c T.t1 T.t5 ws).count (rules_left c T.t7 ws).count (length (productions_left c T.t8 ws)) (length (symbols_left c T.t8 T.t9 ws));
      tables =
          record {
            t1 = (tokens_left c T.t1 ws).cells;
            t2 = T.t2;
            t3 = (avoided_left src c T.t1 T.t3 ws).cells;
            t4 = T.t4;
            t5 = (epps_left src c T.t1 T.t5 ws).cells;
            t6 = T.t6;
            t7 = (rules_left c T.t7 ws).cells;
            t8 = table_of (length T.t8) (chained ws 0 (productions_left c T.t8 ws));
            t9 = table_of (length T.t9) (symbols_left c T.t8 T.t9 ws);
            t10 = T.t10;
          };
      indexes = record { tokens = index_left src (width tokens) (tokens_left c T.t1 ws) X.tokens; rules = index_left src (width rules) (rules_left c T.t7 ws) X.rules };
    }

-- ---- the outcome

-- number, place and table number (0 unless 42): "Refusals: 44, then validation's number, then 42 for work bits"
abbrev pub pruning_numbers : Result (Unit {0}) PruningError → List ℕ
pruning_numbers (Ok _) = 0 ∷ 0 ∷ 0 ∷ 0 ∷ []
pruning_numbers (Err PruningUnsound) = 44 ∷ 0 ∷ 0 ∷ 0 ∷ []
pruning_numbers (Err (PruningInvalid f)) = flaw_numbers f ++ (0 ∷ [])
pruning_numbers (Err PruningNoWords) = 42 ∷ 0 ∷ 0 ∷ 11 ∷ []

-- what is lent and answered: counts, tables, indexes and work bits
pub record Lent : Type 0 where
  pub counts : Counts
  pub tables : Tables
  pub indexes : Indexes
  pub work : List ℕ

-- "after each the tables are unchanged and the work bits zero": a at entry, b at exit
pub record Unchanged (a b : Lent) : Type 0 where
  pub counts : b.counts ≡ a.counts
  pub tables : b.tables ≡ a.tables
  pub indexes : b.indexes ≡ a.indexes
  pub work : b.work ≡ zeroed a.work

-- there are words enough, the work bits mark the rows that stay, and all else is what they make of it
pub record Prunes (src : List ℕ) (g : Grammar) (x : Excuses) (a b : Lent) : Type 0 where
  pub words : need g ≤ length a.work
  pub size : length b.work ≡ length a.work
  pub work : StayWork g x b.work
  pub same : record { counts = b.counts; tables = b.tables; indexes = b.indexes } ≡ pruned src a.counts a.tables a.indexes b.work

-- of tables that are valid: pruned, or "42 for work bits"
abbrev pub ValidPruning : List ℕ → Grammar → Excuses → Result (Unit {0}) PruningError → Lent → Lent → Type 0
ValidPruning src g x (Ok _) a b = Prunes src g x a b
ValidPruning src g x (Err PruningUnsound) a b = ⊥
ValidPruning src g x (Err (PruningInvalid f)) a b = ⊥
ValidPruning src g x (Err PruningNoWords) a b = (length a.work < need g) × Unchanged a b

-- "44, then validation's number", then what valid tables give
abbrev pub ToldPruning : Result (Unit {0}) ValidityError → List ℕ → Grammar → Excuses → Result (Unit {0}) PruningError → Lent → Lent → Type 0
ToldPruning (Ok _) src g x o a b = ValidPruning src g x o a b
ToldPruning (Err UnsoundTables) src g x o a b = (o ≡ Err PruningUnsound) × Unchanged a b
ToldPruning (Err (Invalid f)) src g x o a b = (o ≡ Err (PruningInvalid f)) × Unchanged a b

-- the whole outcome of pruning
abbrev pub Prunings : List ℕ → Singles → Result (Unit {0}) PruningError → Lent → Lent → Type 0
Prunings src g o a b =
    ToldPruning (validity src a.counts g a.tables a.indexes) src (grammar_in src g.start a.counts a.tables) (excuses_in src a.counts a.tables) o a b
