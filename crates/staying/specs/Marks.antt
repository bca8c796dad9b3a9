-- Document 02, request Eight: the marking of the rows that stay.
use Rattle.std.specs.Prelude.{ℕ, ◌+◌, ◌<◌, ◌≤◌, ◌≡◌, Bool, true, false, List, length}
use Rattle.tables.specs.Table.{cell, zeroed}
use Rattle.reach.specs.Reach.{Named, Grammar, need}
use Rattle.usage.specs.Report.{Excuses, Expects}
use Rattle.pruning.specs.Stays.{StayWork}

-- the rows that stay, or all zero where there are too few words
abbrev pub StayMarks : Grammar → Excuses → Bool → List ℕ → List ℕ → Type 0
StayMarks g x true ws vs = (need g ≤ length ws) × (length vs ≡ length ws) × StayWork g x vs
StayMarks g x false ws vs = (length ws < need g) × (vs ≡ zeroed ws)

-- ---- what the steps promise

-- bit k stands for a row of whose name's place P holds
pub record RowBit (d : Named) (P : ℕ → ℕ → Type 0) (k : ℕ) : Type 0 where
  pub row : ℕ
  pub inside : row < d.sort.count
  pub holds : P (cell d.sort.wide d.cells row 0) (cell d.sort.wide d.cells row 1)
  pub bit_is : k ≡ d.sort.base + row

-- bit k stands for the row that row e of table 6 excuses
abbrev pub EntryBit : List ℕ → Named → List ℕ → ℕ → ℕ → Type 0
EntryBit src d t e = RowBit d (λ (a b : ℕ). Expects src t d.sort.kind a b e)
