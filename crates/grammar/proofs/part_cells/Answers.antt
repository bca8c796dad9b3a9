-- `grammar::part_cells`: each arm is its line of the definition.
use mathlib.Core.Path.{sym, ap}
use Rattle.grammar.specs.Numbers.{part_numbers}
use Rattle.grammar.proofs.part_cells.Goals as goal

pub returns-in-Some : goal.returns-in-Some
returns-in-Some c = sym (ap part_numbers c.in-Some.is)
