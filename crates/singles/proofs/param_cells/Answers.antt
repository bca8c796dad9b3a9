-- `singles::param_cells`: each arm is its line of the definition.
use mathlib.Core.Path.{sym, ap}
use Rattle.grammar.specs.Numbers.{param_numbers}
use Rattle.singles.proofs.param_cells.Goals as goal

pub returns-in-Some : goal.returns-in-Some
returns-in-Some c = sym (ap param_numbers c.in-Some.is)
