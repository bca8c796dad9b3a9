-- `catalogue::head_cells`: counts and length, singles and kind stand one behind the other.
use Rattle.catalogue.proofs.Laws.{head_put}
use Rattle.catalogue.proofs.head_cells.Goals as goal

pub returns : goal.returns
returns c = head_put c.args.h _ _ _ c.single_cells-singles.ensures c.put_cells.ensures c.put_cells-2.ensures
