-- Places that nest so far: what holds between any two items of a reading that goes on.
use Rattle.std.specs.Prelude.{ℕ, ◌+◌, ◌≤◌, ◌<◌, ◌≡◌, List, true, get_or, Option, Some, None}
use Rattle.tables.specs.Rows.{row_at, Rows}
use Rattle.tables.specs.Layout.{productions, symbols, place, symbols_from, symbols_to, action, kind_name, width}
use Rattle.grammar.specs.declared.State.{State}
use Rattle.grammar.specs.State.{count}
use Rattle.productions.specs.declared.Production.{Production}
use Rattle.items.specs.Items.{may_end}
use Rattle.nesting.specs.Nest.{InSpan, Inked, LeftOf, ActionBehind, Follows}

-- a symbol that ends where the reading stands, or before
pub record SymbolSeen (at : ℕ) (x : List ℕ) : Type 0 where
  pub inked : Inked x
  pub ends : get_or x (kind_name + 1) 0 ≤ at

-- a production that is over: it and its action end before `limit`, its symbols' rows are below `first`, and its symbols lie inside
pub record ProductionOver (limit first : ℕ) (t9 x : List ℕ) : Type 0 where
  pub span : get_or x (place + 1) 0 < limit
  pub acted : get_or x action 0 ≡ 1 → get_or x (action + 2) 0 < limit
  pub behind : ActionBehind x
  pub last : get_or x symbols_to 0 ≤ first
  pub inside : (q : ℕ) → get_or x symbols_from 0 ≤ q → q < get_or x symbols_to 0 → InSpan (get_or x place 0) (get_or x (place + 1) 0) (row_at (width symbols) t9 q)

-- Between productions: n symbols that end at `at` or before, and m productions that are over.
pub record Lain (at limit first m n : ℕ) (t8 t9 : List ℕ) : Type 0 where
  pub symbols : Rows (SymbolSeen at) LeftOf (width symbols) n t9
  pub productions : Rows (ProductionOver limit first t9) Follows (width productions) m t8

-- the action of a production under way lies behind its span, the reading stands behind it, and "only `|` or `;` may stand" there
abbrev pub Shut : List ℕ → ℕ → ℕ → Option (ℕ × ℕ × ℕ × ℕ) → Type 0
Shut src at to None = Unit {0}
Shut src at to (Some (a, b, c, d)) = (to < a) × (a ≤ b) × (b < at) × (may_end src at ≡ true)

-- A production under way, from `from` to `to`, whose symbols' rows begin with `first`.
pub record Lying (src : List ℕ) (at m n from to first : ℕ) (act : Option (ℕ × ℕ × ℕ × ℕ)) (t8 t9 : List ℕ) : Type 0 where
  pub lain : Lain at from first m n t8 t9
  pub span : from ≤ to
  pub here : to ≤ at
  pub since : first ≤ n
  pub inside : (q : ℕ) → first ≤ q → q < n → InSpan from to (row_at (width symbols) t9 q)
  pub shut : Shut src at to act

-- between rules, and within one
abbrev pub Settled : State → List ℕ → List ℕ → Type 0
Settled s t8 t9 = Lain s.at s.at (count s symbols) (count s productions) (count s symbols) t8 t9

abbrev pub Nested : List ℕ → State → Production → List ℕ → List ℕ → Type 0
Nested src s d t8 t9 = Lying src s.at (count s productions) (count s symbols) d.from d.to d.first d.action t8 t9
