-- Document 02, request Eight: "Rows close up in their old order, freed rows are zero". Once over the width, and over the test that says which rows stay.
use Rattle.std.specs.Prelude.{ℕ, zero, suc, ◌+◌, ◌*◌, ◌-◌, ◌≤◌, ◌≡◌, List, [], ◌∷◌, ◌++◌, Bool, true, false, eqb, length, take, drop, replicate}
use Rattle.bits.specs.Bits.{bit}
use Rattle.tables.specs.Table.{put}
use Rattle.tables.specs.Rows.{row_at}

-- of n rows those that pass the test, in their old order
unfoldable pub kept_rows : (ℕ → Bool) → ℕ → ℕ → List ℕ → List (List ℕ)
kept_rows stays w zero t = []
kept_rows stays w (suc n) t = elim (stays n) [ true ↦ kept_rows stays w n t ++ (row_at w t n ∷ []) | false ↦ kept_rows stays w n t ]

-- how many numbers below n pass: the new number of row n, if it stays
unfoldable pub rank : (ℕ → Bool) → ℕ → ℕ
rank stays zero = 0
rank stays (suc n) = elim (stays n) [ true ↦ suc (rank stays n) | false ↦ rank stays n ]

-- rows one behind the other
abbrev pub flat : List (List ℕ) → List ℕ
flat [] = []
flat (x ∷ xs) = x ++ flat xs

-- rows as a table of that many cells: zeros behind them
unfoldable pub table_of : ℕ → List (List ℕ) → List ℕ
table_of size rows = flat rows ++ replicate (size - length (flat rows)) 0

-- row `from` copied over row `to`
unfoldable pub moved : ℕ → ℕ → ℕ → List ℕ → List ℕ
moved w from to t = put t (to * w) (row_at w t from)

-- a row read: how many stay so far, and the cells
pub record Step : Type 0 where
  pub count : ℕ
  pub cells : List ℕ

-- row `from` joins the `to` rows that stay, or is passed over
unfoldable pub step : ℕ → Bool → ℕ → ℕ → List ℕ → Step
step w true from to t = record { count = to + 1; cells = moved w from to t }
step w false from to t = record { count = to; cells = t }

-- zeros from an index on
abbrev pub zero_from : ℕ → List ℕ → List ℕ
zero_from at t = take at t ++ replicate (length t - at) 0

-- whether the bit of row r is 1, row 0 having bit `base`
abbrev pub by_bit : List ℕ → ℕ → ℕ → Bool
by_bit ws base r = eqb (bit ws (base + r)) 1

-- the rows that pass the test, closed up, and how many they are
abbrev pub closed : (ℕ → Bool) → ℕ → ℕ → List ℕ → Step
closed stays w n t = record { count = rank stays n; cells = table_of (length t) (kept_rows stays w n t) }

-- "rows that stay", by their bits
abbrev pub close_up : List ℕ → ℕ → ℕ → ℕ → List ℕ → Step
close_up ws base w n t = closed (by_bit ws base) w n t

-- Under way: r rows are read, of which m stay and stand in front; the rows from r on are as they were.
pub record Shut (stays : ℕ → Bool) (w : ℕ) (t₀ : List ℕ) (r m : ℕ) (t : List ℕ) : Type 0 where
  pub count : m ≡ rank stays r
  pub low : m ≤ r
  pub size : length t ≡ length t₀
  pub front : take (m * w) t ≡ flat (kept_rows stays w r t₀)
  pub rest : drop (r * w) t ≡ drop (r * w) t₀
