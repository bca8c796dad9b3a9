-- Document 02, request Ten: where lines end.
use Rattle.std.specs.Prelude.{ℕ, zero, suc, ◌+◌, List, [], ◌∷◌, true, false, ◌||◌, ◌&&◌, not, eqb, get_or, drop}
use Rattle.scan.specs.Scan.{begins}

-- How many lines end with the byte c, behind which cs stand: "CR LF as one, lone CR as one, lone LF as one; the pair counts at its LF".
unfoldable pub lines_here : ℕ → List ℕ → ℕ
lines_here c cs = elim (eqb c 10 || (eqb c 13 && not (begins (10 ∷ []) cs))) [ true ↦ 1 | false ↦ 0 ]

-- the same of a whole source and an index; past the end none ends
unfoldable pub lines_at : List ℕ → ℕ → ℕ
lines_at s k = lines_here (get_or s k 0) (drop (k + 1) s)

-- how many lines end before an index: "so a place on that LF is still on the earlier line"
unfoldable pub lines_to : List ℕ → ℕ → ℕ
lines_to s zero = 0
lines_to s (suc i) = lines_to s i + lines_at s i
