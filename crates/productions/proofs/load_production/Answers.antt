-- `productions::load_production`: the thirteen cells, read one by one.
use Rattle.productions.specs.Cells.{production_at}
use Rattle.productions.proofs.load_production.Goals as goal

pub returns : goal.returns
unfolding production_at
returns c =
    rw (c.action_of-action.ensures, c.prec_of-prec.ensures, c.cell.ensures, c.cell-2.ensures, c.cell-3.ensures, c.cell-4.ensures, c.cell-5.ensures, c.cell-6.ensures, c.cell-7.ensures, c.cell-8.ensures, c.cell-9.ensures, c.cell-10.ensures, c.cell-11.ensures, c.cell-12.ensures, c.cell-13.ensures)
