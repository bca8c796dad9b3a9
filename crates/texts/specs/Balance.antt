-- Document 01, "Words": "Actions balance braces and look at nothing else.", without a scan.
use Rattle.std.specs.Prelude.{ℕ, ◌+◌, ◌≤◌, ◌<◌, ◌≡◌, List, eqb, length, get_or}
use Rattle.scan.specs.Tally.{tally_at}

-- how many braces open, and how many close, from index i on and before index j
abbrev pub openings : List ℕ → ℕ → ℕ → ℕ
openings s i j = tally_at (λ c. eqb c 123) s i j

abbrev pub closings : List ℕ → ℕ → ℕ → ℕ
closings s i j = tally_at (λ c. eqb c 125) s i j

-- A part's braces balance: as many close as open, and no beginning of the part has more that close.
pub record Balances (s : List ℕ) (from to : ℕ) : Type 0 where
  pub even : openings s from to ≡ closings s from to
  pub beginnings : (k : ℕ) → from ≤ k → k ≤ to → closings s from k ≤ openings s from k

-- The action whose brace opens at an index ends with the closing brace at `to`: what stands between the two balances. The byte at `at` is what the caller
-- looked ahead for.
pub record IsAction (s : List ℕ) (at to : ℕ) : Type 0 where
  pub onward : at < to
  pub inside : to < length s
  pub closes : get_or s to 0 ≡ 125
  pub between : Balances s (at + 1) to
