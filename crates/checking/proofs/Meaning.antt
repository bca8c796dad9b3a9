-- What the line that is shown is in the source. Assumes nothing.
use Prim.Native.Nat.{ℕ, ◌≤◌}
use mathlib.Core.Path.{refl, subst}
use mathlib.Core.List.{List}
use native.Mathlib.Omega.{arith}
use lib.ListN.{length}
use Rattle.scan.specs.declared.Class.TheVariants.{LineByte}
use Rattle.scan.specs.Scan.{in_class, run_end_at}
use Rattle.scan.proofs.Runs.{run_is}
use Rattle.places.specs.Places.{line_start}
use Rattle.places.proofs.Laws.{start_before}
use Rattle.places.proofs.Meaning.{start_is}
use Rattle.checking.specs.Lines.{line_of, LineShown}
use Rattle.checking.proofs.Laws.{line_is}

-- Of a source that is not too long, the line of any of its places, and of its end.
pub line_shown : (s : List ℕ) (at : ℕ) → length s ≤ 65536 → at ≤ length s → LineShown s at (line_of s at)
unfolding in_class
line_shown s at h k =
    subst (LineShown s at) (line_is s at h (line_start s at) (run_end_at (in_class LineByte) s (line_start s at)) k refl refl)
    (record { begins = start_is s at; runs = run_is (in_class LineByte) s (line_start s at) (omega (arith, start_before s at)) })
