-- `rules::rules`.
use borrow.Author.Rules.{rules}
use Rattle.grammar.proofs.Steps.{passed_on}
use Rattle.rules.proofs.Spares.{by_mark}
use Rattle.rules.proofs.Laws.{all_going, all_done, all_refused}
use Rattle.rules.proofs.rules.Goals as goal

pub rules_run-requires : goal.rules_run-requires
rules_run-requires c =
    (search rules, by_mark _ _ _ _ _ _ 0 3 0 _ _ c.pass_mark-r.ensures.is c.requires.1, by_mark _ _ _ _ _ _ 6 5 0 _ _ c.pass_mark-r.ensures.is c.requires.2)

pub returns-in-Going : goal.returns-in-Going
returns-in-Going c =
    record {
      is = all_going _ _ _ _ _ _ _ c.pass_mark-r.ensures.is _ c.in-Going.is c.rules_run.ensures.is;
      moved = passed_on _ _ _ _ c.pass_mark-r.ensures.moved c.rules_run.ensures.moved;
      indexed = c.rules_run.ensures.indexed;
    }

pub returns-in-Done : goal.returns-in-Done
returns-in-Done c =
    record {
      is = all_done _ _ _ _ _ _ _ c.pass_mark-r.ensures.is c.in-Done.is;
      moved = c.pass_mark-r.ensures.moved;
      indexed = (by_mark _ _ _ _ _ _ 0 3 0 _ _ c.pass_mark-r.ensures.is c.requires.1, by_mark _ _ _ _ _ _ 6 5 0 _ _ c.pass_mark-r.ensures.is c.requires.2);
    }

pub returns-in-Refused : goal.returns-in-Refused
returns-in-Refused c =
    record {
      is = all_refused _ _ _ _ _ _ _ c.pass_mark-r.ensures.is _ c.in-Refused.is;
      moved = c.pass_mark-r.ensures.moved;
      indexed = (by_mark _ _ _ _ _ _ 0 3 0 _ _ c.pass_mark-r.ensures.is c.requires.1, by_mark _ _ _ _ _ _ 6 5 0 _ _ c.pass_mark-r.ensures.is c.requires.2);
    }
