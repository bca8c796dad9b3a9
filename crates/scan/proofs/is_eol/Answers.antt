-- `scan::is_eol`: it is the definition.
use mathlib.Core.Path.{refl}
use Rattle.scan.specs.Scan.{is_eol}
use Rattle.scan.proofs.is_eol.Goals as goal

pub returns : goal.returns
unfolding is_eol
returns c = refl
