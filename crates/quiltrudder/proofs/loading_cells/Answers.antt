-- `quiltrudder::loading_cells`: number, place and table, counts and singles stand one behind the other.
use Rattle.quiltrudder.proofs.Cells.{loading_put}
use Rattle.quiltrudder.proofs.loading_cells.Goals as goal

pub returns : goal.returns
returns c =
    let a = c.args in
    loading_put a.j a.c a.g a.p a.s c.of_judgement-t.result _ _ _ _ _ _ c.of_judgement-t.ensures c.single_cells-singles.ensures c.put_cells.ensures c.put_cells-2.ensures c.put_cells-3.ensures c.put_cells-4.ensures c.put_cells-5.ensures
