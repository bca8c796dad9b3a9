-- How many bytes of a part of a source pass a test, such as its line ends or its braces.
use Rattle.std.specs.Prelude.{ℕ, suc, Bool, true, false, List, [], ◌∷◌}
use Rattle.std.proofs.Math.Seq.{slice}

unfoldable pub tally : (ℕ → Bool) → List ℕ → ℕ
tally p [] = 0
tally p (c ∷ cs) = elim (p c) [ true ↦ suc (tally p cs) | false ↦ tally p cs ]

-- those from index i on and before index j
unfoldable pub tally_at : (ℕ → Bool) → List ℕ → ℕ → ℕ → ℕ
tally_at p s i j = tally p (slice i j s)
