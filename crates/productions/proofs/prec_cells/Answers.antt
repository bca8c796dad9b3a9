-- `productions::prec_cells`: each arm is its line of the definition.
use mathlib.Core.Path.{sym, ap}
use Rattle.productions.specs.Cells.{prec_cells}
use Rattle.productions.proofs.prec_cells.Goals as goal

pub returns-in-Some : goal.returns-in-Some
returns-in-Some c = sym (ap prec_cells c.in-Some.is)
