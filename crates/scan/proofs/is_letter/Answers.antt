-- `scan::is_letter`: it is the definition.
use mathlib.Core.Path.{refl}
use Rattle.scan.specs.Scan.{is_letter}
use Rattle.scan.proofs.is_letter.Goals as goal

pub returns : goal.returns
unfolding is_letter
returns c = refl
