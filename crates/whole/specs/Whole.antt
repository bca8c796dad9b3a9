-- The whole source, code point after code point.
use Rattle.std.specs.Prelude.{ℕ, zero, suc, ◌+◌, ◌-◌, ◌<◌, List, [], ◌∷◌, drop, Some, None, Result, Ok, Err}
use Rattle.utf8.specs.Utf8.{decode}

-- Document 01: "40 not UTF-8: first byte that begins no well-formed sequence"; k bytes still belong to the code point before, then the next begins.
unfoldable pub check : ℕ → List ℕ → ℕ → Result (Unit {0}) ℕ
check k [] i = Ok tt
check zero (a ∷ bs) i = elim (decode (a ∷ bs) i) [ Some (p, j) ↦ check (j - (i + 1)) bs (i + 1) | None ↦ Err i ]
check (suc k) (a ∷ bs) i = check k bs (i + 1)

-- Document 01, 40: the same, of a whole source from an index on.
unfoldable pub check_at : List ℕ → ℕ → Result (Unit {0}) ℕ
check_at s i = check 0 (drop i s) i

-- Document 01's numbers and values: "0 accepted"; "40 not UTF-8", and its place.
unfoldable pub numbers : Result (Unit {0}) ℕ → List ℕ
numbers (Ok _) = 0 ∷ []
numbers (Err i) = 40 ∷ i ∷ []

-- Document 01: "All places are byte offsets": the place of a 40 is that of a byte, below n.
abbrev pub Below : ℕ → Result (Unit {0}) ℕ → Type 0
Below n (Ok _) = Unit {0}
Below n (Err p) = p < n
