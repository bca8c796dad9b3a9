-- What the theorems about storing and loading back speak of.
use Rattle.std.specs.Prelude.{ℕ, ◌-◌, ◌<◌, ◌≡◌, List, ◌++◌, length, take, replicate, Ok}
use Rattle.grammar.specs.declared.Counts.{Counts}
use Rattle.grammar.specs.declared.PosixCounts.{PosixCounts}
use Rattle.grammar.specs.declared.Singles.{Singles}
use Rattle.grammar.specs.Sound.{AllTables, Indexes, cells_of}
use Rattle.catalogue.specs.Catalogue.{Fit32, Bytes, head_cells, cells_at}
use Rattle.storing.specs.Storing.{head_with}
use Rattle.restoring.specs.Restoring.{Restored, entered_indexes}

-- What every reading that code can hold has, since its types say so: ten counts and three, numbers of 32 bits, and bytes.
pub record Plain (src : List ℕ) (kind : ℕ) (c : Counts) (p : PosixCounts) (g : Singles) (T : AllTables) : Type 0 where
  pub ten : length c.n ≡ 10
  pub three : length p.n ≡ 3
  pub heads : Fit32 (head_cells (head_with src kind c p g))
  pub cells : (k : ℕ) → k < 13 → Fit32 (cells_of T k)
  pub bytes : Bytes src

-- "Loading those blocks [..] gives back the same tables and source and fills the indexes": r is what loading leaves in a lent source S, lent tables T₀ and lent indexes X₀, of a reading with source src and tables T.
-- Rows and source are the same, and the cells and bytes behind them are zero.
pub record Back (src : List ℕ) (kind : ℕ) (c : Counts) (p : PosixCounts) (g : Singles) (T : AllTables) (S : List ℕ) (T₀ : AllTables) (X₀ : Indexes) (r : Restored) : Type 0 where
  pub answer : r.answer ≡ Ok tt
  pub head : r.head ≡ head_with src kind c p g
  pub source : r.source ≡ src ++ replicate (length S - length src) 0
  pub tables : (k : ℕ) → k < 13 → cells_of r.tables k ≡ take (cells_at c p k) (cells_of T k) ++ replicate (length (cells_of T₀ k) - cells_at c p k) 0
  pub indexes : r.indexes ≡ entered_indexes src c r.tables (length X₀.tokens) (length X₀.rules)
