-- `singles::single_cells`: the singles stand one behind the other.
use Rattle.singles.proofs.Laws.{singles_put}
use Rattle.singles.proofs.single_cells.Goals as goal

pub returns : goal.returns
returns c =
    singles_put c.args.g _ _ _ _ _ _ _ _ _ _ _ _ c.part_cells.ensures c.expect_cells.ensures c.expect_cells-2.ensures c.param_cells.ensures c.part_cells-2.ensures c.part_cells-3.ensures c.put_cells.ensures c.put_cells-2.ensures c.put_cells-3.ensures c.put_cells-4.ensures c.put_cells-5.ensures c.put_cells-6.ensures
