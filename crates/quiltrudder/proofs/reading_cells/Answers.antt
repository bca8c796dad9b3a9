-- `quiltrudder::reading_cells`: number, place and table, counts, singles and what comes behind them stand one behind the other.
use native.Mathlib.Omega.{arith}
use Rattle.quiltrudder.proofs.Cells.{reading_put}
use Rattle.quiltrudder.proofs.reading_cells.Goals as goal

pub returns : goal.returns
returns c =
    reading_put c.args.t c.args.c c.args.g _ _ _ _ _ (omega (arith, c.well_formed)) c.single_cells-singles.ensures c.put_cells.ensures c.put_cells-2.ensures c.put_cells-3.ensures
