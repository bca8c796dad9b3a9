-- Document 02, request Ten: "a line and a byte column, both from 1".
use Rattle.std.specs.Prelude.{ℕ, zero, suc, ◌+◌, ◌-◌, ◌≤◌, ◌<◌, ◌≡◌, List, true, false, ◌⊎◌, eqb, ltb, length}
use Rattle.scan.specs.Lines.{lines_at, lines_to}
use Rattle.places.specs.declared.Spot.{Spot}

-- where the line of an index begins: behind the last byte before it that ends a line
unfoldable pub line_start : List ℕ → ℕ → ℕ
line_start s zero = 0
line_start s (suc i) = elim (eqb (lines_at s i) 0) [ true ↦ line_start s i | false ↦ suc i ]

-- the same without a scan: it is the source's begin or stands behind a line's end, and no line ends between it and the index
pub record LineBegins (s : List ℕ) (i j : ℕ) : Type 0 where
  pub before : j ≤ i
  pub edge : (j ≡ 0) ⊎ ((0 < j) × (lines_at s (j - 1) ≡ 1))
  pub within : (k : ℕ) → j ≤ k → k < i → lines_at s k ≡ 0

-- line and column of index i, without a scan: one more than the lines that end before it, and one more than the bytes between its line's begin and it
pub record Spotted (s : List ℕ) (i : ℕ) (p : Spot) : Type 0 where
  pub start : ℕ
  pub begins : LineBegins s i start
  pub line : p.line ≡ lines_to s i + 1
  pub column : p.column ≡ i - start + 1

-- "both from 1"; "a place on that LF is still on the earlier line"; "A place at the source end has the line and column of the byte that would come next"
abbrev pub spot_of : List ℕ → ℕ → Spot
spot_of s i = record { line = lines_to s i + 1; column = i - line_start s i + 1 }

-- the same of any offset: past the source's end it is the end's; a source that is too long has no place but its begin
unfoldable pub spot_at : List ℕ → ℕ → Spot
spot_at s at =
    elim (ltb 65536 (length s)) [
      | true ↦ record { line = 1; column = 1 }
      | false ↦ elim (ltb at (length s)) [ true ↦ spot_of s at | false ↦ spot_of s (length s) ]
    ]
