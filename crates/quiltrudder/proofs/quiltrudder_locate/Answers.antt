-- `quiltrudder::quiltrudder_locate`: line and column, in numbers.
use mathlib.Core.Path.{ap}
use Rattle.quiltrudder.specs.Face.{spot_cells}
use Rattle.quiltrudder.proofs.quiltrudder_locate.Goals as goal

pub returns : goal.returns
returns c = ap spot_cells c.locate-s.ensures
