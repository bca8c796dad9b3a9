-- What the contract of `epp_value` allows, and what a value that was written is.
use Rattle.std.specs.Prelude.{ℕ, ◌+◌, ◌-◌, ◌≡◌, List, ◌++◌, length, replicate}
use Rattle.tables.specs.Table.{cell}
use Rattle.tables.specs.Layout.{epps, value, width}
use Rattle.grammar.specs.declared.Counts.{Counts}
use Rattle.grammar.specs.declared.Singles.{Singles}
use Rattle.grammar.specs.Sound.{Tables, Indexes}
use Rattle.values.specs.Value.{IsString, Valued, epp_value}

-- "Any two outcomes allowed by it are proved equal": an outcome that the contract of `epp_value` allows
abbrev pub Allowed : List ℕ → Counts → Singles → Tables → Indexes → ℕ → List ℕ → Valued → Type 0
Allowed src c g T X row out o = o ≡ epp_value src c g T X row out

-- at the place of a row's value stands a string that spells v
abbrev pub ValueAt : List ℕ → List ℕ → ℕ → List ℕ → Type 0
ValueAt src t5 row v = IsString src (cell (width epps) t5 row value) (cell (width epps) t5 row (value + 1)) v

-- n bytes were written, those of the value, and zeros behind them
pub record ValueIs (src t5 : List ℕ) (row : ℕ) (out : List ℕ) (n : ℕ) (left : List ℕ) : Type 0 where
  pub text : List ℕ
  pub there : ValueAt src t5 row text
  pub count : n ≡ length text
  pub cells : left ≡ text ++ replicate (length out - length text) 0
