-- `productions::action_cells`: each arm is its line of the definition.
use mathlib.Core.Path.{sym, ap}
use Rattle.productions.specs.Cells.{action_cells}
use Rattle.productions.proofs.action_cells.Goals as goal

pub returns-in-Some : goal.returns-in-Some
returns-in-Some c = sym (ap action_cells c.in-Some.is)
