-- Document 01, "the place of its trimmed text": what the trimmed place of a region is, without a scan.
use Rattle.std.specs.Prelude.{ℕ, ◌≡◌, List}
use Rattle.std.proofs.Math.Seq.{slice}
use Rattle.scan.specs.declared.Place.{Place}
use Rattle.whole.specs.Encode.{encoded}
use Rattle.trim.specs.Trims.{Trims}

-- the region from index `from` on and before index `to` holds some code points, of which the place is the trimming
abbrev pub Trimmed : List ℕ → ℕ → ℕ → Place → Type 0
Trimmed s from to p = (cs : List ℕ) × (encoded cs ≡ slice from to s) × Trims from cs p
