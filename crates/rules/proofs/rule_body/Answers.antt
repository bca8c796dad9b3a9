-- `rules::rule_body`.
use Rattle.grammar.proofs.Steps.{passed_on, passed_here}
use Rattle.rules.proofs.Spares.{by_mark}
use Rattle.rules.proofs.Laws.{body_going, body_done, body_refused}
use Rattle.rules.proofs.rule_body.Goals as goal

pub items-requires : goal.items-requires
items-requires c = (passed_here _ _ _ c.requires.0 c.pass_mark-c.ensures.moved, by_mark _ _ _ _ _ _ 0 3 0 _ _ c.pass_mark-c.ensures.is c.requires.1)

pub returns-in-Going : goal.returns-in-Going
returns-in-Going c =
    record {
      is = body_going _ _ _ _ _ _ _ c.pass_mark-c.ensures.is _ _ _ c.in-Going.is c.count_of.ensures c.begin-d.ensures c.items.ensures.is;
      moved = passed_on _ _ _ _ c.pass_mark-c.ensures.moved c.items.ensures.moved;
      indexed = c.items.ensures.indexed;
    }

pub returns-in-Done : goal.returns-in-Done
returns-in-Done c =
    record {
      is = body_done _ _ _ _ _ _ _ c.pass_mark-c.ensures.is c.in-Done.is;
      moved = c.pass_mark-c.ensures.moved;
      indexed = by_mark _ _ _ _ _ _ 0 3 0 _ _ c.pass_mark-c.ensures.is c.requires.1;
    }

pub returns-in-Refused : goal.returns-in-Refused
returns-in-Refused c =
    record {
      is = body_refused _ _ _ _ _ _ _ c.pass_mark-c.ensures.is _ c.in-Refused.is;
      moved = c.pass_mark-c.ensures.moved;
      indexed = by_mark _ _ _ _ _ _ 0 3 0 _ _ c.pass_mark-c.ensures.is c.requires.1;
    }
