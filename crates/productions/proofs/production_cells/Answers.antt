-- `productions::production_cells`: the two enums' cells, put behind the numbers.
use Rattle.productions.proofs.production_cells.Goals as goal

pub returns : goal.returns
returns c = rw (c.prec_cells-x.ensures, c.action_cells-y.ensures)
