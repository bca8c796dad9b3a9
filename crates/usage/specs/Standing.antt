-- What stands in the report, said of its rows; nothing here speaks of lists that are picked or of cells that are written.
use Rattle.std.specs.Prelude.{ℕ, ◌*◌, ◌<◌, ◌≡◌, List, ◌↔◌, length}
use Rattle.tables.specs.Table.{cell}
use Rattle.reach.specs.Reach.{Grammar}
use Rattle.usage.specs.Report.{Excuses, UnusedRule, UnusedToken}

-- one of the report's n rows is (kd, r)
pub record StandsIn (out : List ℕ) (n kd r : ℕ) : Type 0 where
  pub at : ℕ
  pub there : at < n
  pub kind : cell 2 out at 0 ≡ kd
  pub row : cell 2 out at 1 ≡ r

-- "1 rule, 2 token": row r of kind kd is neither used nor excused
pub data UnusedRow (g : Grammar) (x : Excuses) (kd r : ℕ) : Type 0 where
  unused_rule : kd ≡ 1 → r < g.rules.sort.count → UnusedRule g x r → UnusedRow g x kd r
  unused_token : kd ≡ 2 → r < g.tokens.sort.count → UnusedToken g x r → UnusedRow g x kd r

-- row i of the report comes before row j: its kind is smaller, or its kind is the same and its row number smaller
pub data Before (out : List ℕ) (i j : ℕ) : Type 0 where
  by_kind : cell 2 out i 0 < cell 2 out j 0 → Before out i j
  by_row : cell 2 out i 0 ≡ cell 2 out j 0 → cell 2 out i 1 < cell 2 out j 1 → Before out i j

-- "exactly the rules and tokens that no chain [..] reaches and no declaration excuses, each once, in order": the first n rows of the cells are those, and each
-- stands before the next. So the unused rows are n many.
pub record UnusedRows (g : Grammar) (x : Excuses) (n : ℕ) (cells : List ℕ) : Type 0 where
  pub exactly : (kd r : ℕ) → StandsIn cells n kd r ↔ UnusedRow g x kd r
  pub rises : (i j : ℕ) → i < j → j < n → Before cells i j

-- "no room": there are more unused rows than the report takes at two cells a row; the list has them all
pub record TooMany (g : Grammar) (x : Excuses) (out : List ℕ) : Type 0 where
  pub count : ℕ
  pub list : List ℕ
  pub rows : UnusedRows g x count list
  pub room : length out < count * 2
