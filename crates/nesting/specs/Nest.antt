-- Document 02, request Fourteen: "Our highlighter paints by places and assumes that they nest." Places are half open: one that ends at an offset and one that begins there share no byte.
use Rattle.std.specs.Prelude.{ℕ, ◌+◌, ◌≤◌, ◌<◌, ◌≡◌, List, get_or}
use Rattle.tables.specs.Rows.{row_at}
use Rattle.tables.specs.Layout.{productions, symbols, place, symbols_from, symbols_to, action, kind_name, width}
use Rattle.grammar.specs.declared.Counts.{Counts}
use Rattle.grammar.specs.Sound.{Tables}

-- "symbols of a production lie inside its span": a row of table 9, and the place of a production
pub record InSpan (from to : ℕ) (x : List ℕ) : Type 0 where
  pub starts : from ≤ get_or x kind_name 0
  pub ends : get_or x (kind_name + 1) 0 ≤ to

-- a symbol has at least one byte
pub record Inked (x : List ℕ) : Type 0 where
  pub some : get_or x kind_name 0 < get_or x (kind_name + 1) 0

-- "from left to right, with no overlap": two rows of table 9
pub record LeftOf (x y : List ℕ) : Type 0 where
  pub apart : get_or x (kind_name + 1) 0 ≤ get_or y kind_name 0

-- "a trimmed action lies after its production's span": a row of table 8; at least the `{` stands between them
pub record ActionBehind (x : List ℕ) : Type 0 where
  pub after : get_or x action 0 ≡ 1 → get_or x (place + 1) 0 < get_or x (action + 1) 0
  pub onward : get_or x action 0 ≡ 1 → get_or x (action + 1) 0 ≤ get_or x (action + 2) 0

-- "production spans follow one another without overlap in table order"; the action lies "before the next production's": two rows of table 8; at least the `|` or
-- `;` stands between them
pub record Follows (x y : List ℕ) : Type 0 where
  pub span : get_or x (place + 1) 0 < get_or y place 0
  pub action : get_or x action 0 ≡ 1 → get_or x (action + 2) 0 < get_or y place 0

abbrev pub production_row : Tables → ℕ → List ℕ
production_row T r = row_at (width productions) T.t8 r

abbrev pub symbol_row : Tables → ℕ → List ℕ
symbol_row T q = row_at (width symbols) T.t9 q

-- Places nest, in tables with these counts.
pub record Nest (c : Counts) (T : Tables) : Type 0 where
  pub inside : (r q : ℕ) → r < get_or c.n productions 0 → get_or (production_row T r) symbols_from 0 ≤ q → q < get_or (production_row T r) symbols_to 0 → InSpan (get_or (production_row T r) place 0) (get_or (production_row T r) (place + 1) 0) (symbol_row T q)
  pub inked : (q : ℕ) → q < get_or c.n symbols 0 → Inked (symbol_row T q)
  pub ordered : (q r : ℕ) → q < r → r < get_or c.n symbols 0 → LeftOf (symbol_row T q) (symbol_row T r)
  pub follow : (q r : ℕ) → q < r → r < get_or c.n productions 0 → Follows (production_row T q) (production_row T r)
  pub behind : (r : ℕ) → r < get_or c.n productions 0 → ActionBehind (production_row T r)
