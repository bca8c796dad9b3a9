-- `singles::expect_cells`: each arm is its line of the definition.
use mathlib.Core.Path.{sym, ap}
use Rattle.singles.specs.Singles.{expect_cells}
use Rattle.singles.proofs.expect_cells.Goals as goal

pub returns-in-Some : goal.returns-in-Some
returns-in-Some c = sym (ap expect_cells c.in-Some.is)
