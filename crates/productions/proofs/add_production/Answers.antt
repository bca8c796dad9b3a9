-- `productions::add_production`: its cells are a row of table 8.
use Rattle.productions.specs.Cells.{push_production}
use Rattle.productions.proofs.add_production.Goals as goal

pub returns : goal.returns
unfolding push_production
returns c =
    record {
      is = rw (← c.production_cells-row.ensures) c.push.ensures.is;
      kept = c.push.ensures.kept;
    }
