-- Document 02, request Nine: "`%{` to `%}`"; lines are counted by request Ten.
use Rattle.std.specs.Prelude.{ℕ, ◌+◌, ◌≤◌, ◌<◌, ◌≡◌, List, [], ◌∷◌, true, false, length, get_or, drop, Option, Some, None}
use Rattle.scan.specs.Scan.{begins}
use Rattle.scan.specs.Lines.{lines_here}

-- `%}`
abbrev pub mark : List ℕ
mark = 37 ∷ 125 ∷ []

-- Where the first mark begins; the bytes that are left stand from index i on, and n lines end before them.
unfoldable pub marked : List ℕ → ℕ → ℕ → Option (ℕ × ℕ)
marked [] i n = None
marked (c ∷ cs) i n = elim (begins mark (c ∷ cs)) [ true ↦ Some (i, n) | false ↦ marked cs (i + 1) (n + lines_here c cs) ]

-- the same, of a whole source and an index in it
unfoldable pub marked_from : List ℕ → ℕ → ℕ → Option (ℕ × ℕ)
marked_from s i n = marked (drop i s) i n

abbrev pub marked_at : List ℕ → ℕ → Option (ℕ × ℕ)
marked_at s i = marked_from s i 0

-- a mark stands at an index, without looking ahead
abbrev pub MarkAt : List ℕ → ℕ → Type 0
MarkAt s k = (get_or s k 0 ≡ 37) × (get_or s (k + 1) 0 ≡ 125)

-- Places: the mark found is one, and all of it lies in the source.
abbrev pub Marked : List ℕ → ℕ → Option (ℕ × ℕ) → Type 0
Marked s from (Some (to, n)) = (from + n ≤ to) × (to + 2 ≤ length s) × MarkAt s to
Marked s from None = Unit {0}

-- The first mark from an index on, without a scan: none begins between the two.
pub record FirstMark (s : List ℕ) (from to : ℕ) : Type 0 where
  pub onward : from ≤ to
  pub stands : MarkAt s to
  pub before : (k : ℕ) → from ≤ k → k < to → MarkAt s k → ⊥

-- 0, where the mark begins and the lines; 51 where none does
unfoldable pub mark_numbers : Option (ℕ × ℕ) → List ℕ
mark_numbers (Some (to, n)) = 0 ∷ to ∷ n ∷ []
mark_numbers None = 51 ∷ []
