-- `validation::unused_fault`: the three cells, read one by one.
use Rattle.validation.specs.Faults.{kind_faults}
use Rattle.validation.proofs.unused_fault.Goals as goal

pub returns : goal.returns
unfolding kind_faults
returns c = rw (← c.cell-3.ensures, ← c.cell-2.ensures, ← c.cell.ensures) c.name_fault.ensures
