-- `rules::rule`: the head, then the body.
use borrow.Author.Rules.{rules}
use Rattle.rules.proofs.Spares.{by_head, by_body}
use Rattle.rules.proofs.Laws.{rule_going, rule_done, rule_refused, body_moves, moves_as}
use Rattle.rules.proofs.rule.Goals as goal

pub rule_head-h-requires : goal.rule_head-h-requires
rule_head-h-requires c = (c.requires.0, c.requires.2)

pub rule_body-requires : goal.rule_body-requires
rule_body-requires c = (search rules, by_head _ _ _ _ _ _ _ _ _ c.rule_head-h.ensures.is c.requires.1)

pub returns-in-Going : goal.returns-in-Going
returns-in-Going c =
    record {
      is = rule_going _ _ _ _ _ _ _ c.rule_head-h.ensures.is _ c.in-Going.is c.rule_body.ensures.is;
      moved = body_moves _ _ _ _ _ _ c.rule_head-h.ensures.moved c.in-Going.is c.rule_body.ensures.moved;
      indexed = (c.rule_body.ensures.indexed, by_body _ _ _ _ _ _ _ _ _ _ _ _ _ c.rule_body.ensures.is c.rule_head-h.ensures.indexed);
    }

pub returns-in-Done : goal.returns-in-Done
returns-in-Done c =
    record {
      is = rule_done _ _ _ _ _ _ _ c.rule_head-h.ensures.is c.in-Done.is;
      moved = moves_as c.in-Done.is c.rule_head-h.ensures.moved;
      indexed = (by_head _ _ _ _ _ _ _ _ _ c.rule_head-h.ensures.is c.requires.1, c.rule_head-h.ensures.indexed);
    }

pub returns-in-Refused : goal.returns-in-Refused
returns-in-Refused c =
    record {
      is = rule_refused _ _ _ _ _ _ _ c.rule_head-h.ensures.is _ c.in-Refused.is;
      moved = moves_as c.in-Refused.is c.rule_head-h.ensures.moved;
      indexed = (by_head _ _ _ _ _ _ _ _ _ c.rule_head-h.ensures.is c.requires.1, c.rule_head-h.ensures.indexed);
    }
