-- Rows added to a table, one behind another, and the room for them.
use Rattle.std.specs.Prelude.{ℕ, ◌+◌, ◌<◌, ◌≡◌, List, ◌++◌, true, length}
use Rattle.tables.specs.Table.{room}
use Rattle.tables.specs.Rows.{rows_of}

-- n rows of t have become m rows of u: the same rows, and these behind them
pub record Appended (w n : ℕ) (t : List ℕ) (new : List (List ℕ)) (m : ℕ) (u : List ℕ) : Type 0 where
  pub counted : m ≡ n + length new
  pub rows : rows_of w m u ≡ rows_of w n t ++ new
  pub size : length u ≡ length t

-- "42 comes exactly where [..] that table has no whole free row": there is one for each of m rows behind n rows
pub record FreeRows (w n : ℕ) (t : List ℕ) (m : ℕ) : Type 0 where
  pub each : (r : ℕ) → r < m → room w (n + r) t ≡ true
