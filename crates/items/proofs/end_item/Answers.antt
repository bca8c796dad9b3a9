-- `items::end_item`.
use Rattle.items.proofs.Symbols.{end_going, end_done, end_refused}
use Rattle.items.proofs.end_item.Goals as goal

pub returns-in-Going : goal.returns-in-Going
returns-in-Going c =
    record {
      is = end_going _ _ _ _ c.end_production-e.ensures.is c.in-Going.is;
      kept = c.end_production-e.ensures.kept;
    }

pub returns-in-Done : goal.returns-in-Done
returns-in-Done c =
    record {
      is = end_done _ _ _ _ c.end_production-e.ensures.is c.in-Done.is;
      kept = c.end_production-e.ensures.kept;
    }

pub returns-in-Refused : goal.returns-in-Refused
returns-in-Refused c =
    record {
      is = end_refused _ _ _ _ c.end_production-e.ensures.is _ c.in-Refused.is;
      kept = c.end_production-e.ensures.kept;
    }
