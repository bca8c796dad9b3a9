-- The sequence of calls, each with the record that the one before left; and where a walk stands by the report's rows.
use Rattle.std.specs.Prelude.{ℕ, zero, suc, ◌+◌, ◌<◌, ◌≡◌, true, false, List, eqb, Option, Result}
use Rattle.tables.specs.Table.{cell}
use Rattle.grammar.specs.declared.Counts.{Counts}
use Rattle.grammar.specs.declared.Singles.{Singles}
use Rattle.grammar.specs.Sound.{Tables, Indexes}
use Rattle.walks.specs.declared.NextError.{NextError}
use Rattle.walks.specs.declared.Standing.{Standing}
use Rattle.walks.specs.Walk.{fresh, Advanced}

-- "calls from a fresh record", with "unchanged tables": the first N of them, `at k` being the record before call k and `said k` what call k answers
pub record FreshCalls (src : List ℕ) (c : Counts) (g : Singles) (T : Tables) (X : Indexes) (ws : List ℕ) (N : ℕ) (at : ℕ → Standing) (said : ℕ → Result (Option (ℕ × ℕ)) NextError) : Type 0 where
  pub begins : at 0 ≡ fresh
  pub calls : (k : ℕ) → k < N → Advanced src c g T X ws (at k) (said k) (at (suc k))

-- the record behind a row of a kind
unfoldable pub passed_row : ℕ → ℕ → Standing → Standing
passed_row kd r s = elim (eqb kd 1) [ true ↦ record { rules = r + 1; tokens = s.tokens } | false ↦ record { rules = s.rules; tokens = r + 1 } ]

-- the record behind the first k rows of a report
unfoldable pub stands_behind : List ℕ → ℕ → Standing
stands_behind out zero = fresh
stands_behind out (suc k) = passed_row (cell 2 out k 0) (cell 2 out k 1) (stands_behind out k)
