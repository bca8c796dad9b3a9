-- The productions of a rule, one behind the other: "rules in order, their productions in order" (document 01, "Validation, then use"). Where a rule's first production stands and where the next one of
-- the same rule does, for each production, so that nobody has to go through all of table 8 for each rule.
use Rattle.std.specs.Prelude.{ℕ, ◌+◌, ◌-◌, ◌<◌, ◌≤◌, ◌≡◌, Bool, List, eqb, length, get_or, Option, Some, None}
use Rattle.tables.specs.Table.{cell, first_row}
use Rattle.tables.specs.Layout.{productions, rule_row, width}

-- whether production r is one of rule k
unfoldable pub is_of_rule : List ℕ → ℕ → ℕ → Bool
is_of_rule t8 k r = eqb (cell (width productions) t8 r rule_row) k

-- the row that was found, or n
abbrev pub row_or : ℕ → Option ℕ → ℕ
row_or n (Some r) = r
row_or n None = n

-- the first production of rule k from a row on, or n, behind the last
unfoldable pub next_of_rule : List ℕ → ℕ → ℕ → ℕ → ℕ
next_of_rule t8 from n k = row_or n (first_row (is_of_rule t8 k) (n - from) from)

-- for each rule that there is a cell for: its first production from a row on
abbrev pub Heads : List ℕ → ℕ → ℕ → List ℕ → Type 0
Heads t8 from n heads = (k : ℕ) → k < length heads → get_or heads k 0 ≡ next_of_rule t8 from n k

-- for each production from a row on that there is a cell for: the next one of its rule
abbrev pub Nexts : List ℕ → ℕ → ℕ → List ℕ → Type 0
Nexts t8 from n nexts = (r : ℕ) → from ≤ r → r < n → r < length nexts → get_or nexts r 0 ≡ next_of_rule t8 (r + 1) n (cell (width productions) t8 r rule_row)

-- the productions from a row on are linked
pub record Linked (t8 : List ℕ) (from n : ℕ) (heads nexts : List ℕ) : Type 0 where
  pub first : Heads t8 from n heads
  pub later : Nexts t8 from n nexts
