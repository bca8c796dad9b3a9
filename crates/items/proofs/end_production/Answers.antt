-- `items::end_production`.
use Rattle.items.proofs.Symbols.{ended}
use Rattle.items.proofs.end_production.Goals as goal

pub returns : goal.returns
returns c =
    record {
      is = ended _ _ _ _ _ c.count_of.ensures c.add_production.ensures.is;
      kept = c.add_production.ensures.kept;
    }
