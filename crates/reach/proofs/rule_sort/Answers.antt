-- `reach::rule_sort`.
use mathlib.Core.Path.{refl}
use Rattle.reach.proofs.rule_sort.Goals as goal

pub returns : goal.returns
returns c = rw c.rows_of.ensures refl
