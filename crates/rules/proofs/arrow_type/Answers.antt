-- `rules::arrow_type`.
use Rattle.grammar.proofs.Steps.{passed_on, passed_here}
use Rattle.rules.proofs.Laws.{arrow_going, arrow_done, arrow_refused}
use Rattle.rules.proofs.arrow_type.Goals as goal

pub colon_type-requires : goal.colon_type-requires
colon_type-requires c = passed_here _ _ _ c.requires c.pass_mark-r.ensures.moved

pub returns-in-Going : goal.returns-in-Going
returns-in-Going c =
    record {
      is = arrow_going _ _ _ c.pass_mark-r.ensures.is _ c.in-Going.is c.colon_type.ensures.is;
      moved = passed_on _ _ _ _ c.pass_mark-r.ensures.moved c.colon_type.ensures.moved;
    }

pub returns-in-Done : goal.returns-in-Done
returns-in-Done c =
    record {
      is = arrow_done _ _ _ c.pass_mark-r.ensures.is c.in-Done.is;
      moved = c.pass_mark-r.ensures.moved;
    }

pub returns-in-Refused : goal.returns-in-Refused
returns-in-Refused c =
    record {
      is = arrow_refused _ _ _ c.pass_mark-r.ensures.is _ c.in-Refused.is;
      moved = c.pass_mark-r.ensures.moved;
    }
