-- A table as its rows, once over the width: what holds of each row, of each two rows, and of the cells past them.
use Rattle.std.specs.Prelude.{ℕ, zero, suc, ◌*◌, ◌-◌, ◌≤◌, ◌<◌, ◌≡◌, List, [], ◌∷◌, ◌++◌, length, get_or, take, drop, replicate}

-- "Cells past a count are zero"
pub record Clean (w n : ℕ) (t : List ℕ) : Type 0 where
  pub zeros : drop (n * w) t ≡ replicate (length t - n * w) 0

-- row r, as a list of w cells
unfoldable pub row_at : ℕ → List ℕ → ℕ → List ℕ
row_at w t r = take w (drop (r * w) t)

-- the rows as a list
unfoldable pub rows_of : ℕ → ℕ → List ℕ → List (List ℕ)
rows_of w zero t = []
rows_of w (suc n) t = rows_of w n t ++ (row_at w t n ∷ [])

-- n rows of width w: P holds of each, Q of each earlier and later one, and the cells past them are zero
pub record Rows (P : List ℕ → Type 0) (Q : List ℕ → List ℕ → Type 0) (w n : ℕ) (t : List ℕ) : Type 0 where
  pub fits : n * w ≤ length t
  -- a count is a 32-bit number
  pub low : n ≤ 4294967295
  pub clean : Clean w n t
  pub each : (r : ℕ) → r < n → P (row_at w t r)
  pub pairs : (q r : ℕ) → q < r → r < n → Q (row_at w t q) (row_at w t r)

-- where the range of row r has to begin: where the range before it ends, which is its cell `to`
unfoldable pub end_before : ℕ → ℕ → List ℕ → ℕ → ℕ
end_before w to t zero = 0
end_before w to t (suc r) = get_or (row_at w t r) to 0

-- "symbol ranges follow one another": those in the cells `from` and `to` of n rows, from 0 on, up to e
pub record Chained (w from to n : ℕ) (t : List ℕ) (e : ℕ) : Type 0 where
  pub begins : (r : ℕ) → r < n → get_or (row_at w t r) from 0 ≡ end_before w to t r
  pub onward : (r : ℕ) → r < n → get_or (row_at w t r) from 0 ≤ get_or (row_at w t r) to 0
  pub last : end_before w to t n ≡ e
