-- `scan::is_digit`: it is the definition.
use mathlib.Core.Path.{refl}
use Rattle.scan.specs.Scan.{is_digit}
use Rattle.scan.proofs.is_digit.Goals as goal

pub returns : goal.returns
unfolding is_digit
returns c = refl
