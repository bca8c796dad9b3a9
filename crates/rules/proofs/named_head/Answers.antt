-- `rules::named_head`: the start, the type, then the rule's row.
use mathlib.Core.Path.{sym}
use native.Mathlib.Omega.{arith}
use Rattle.scan.proofs.Bytes.{told}
use Rattle.grammar.specs.State.{Passed}
use Rattle.rules.proofs.Spares.{by_start, by_type}
use Rattle.rules.proofs.Laws.{head_going, head_done, head_refused}
use Rattle.rules.proofs.named_head.Goals as goal

pub overflow_cast-from : goal.overflow_cast-from
overflow_cast-from c = omega (arith, c.requires.here.within, c.requires.here.short, c.requires.passed.onward)

pub overflow_cast-to : goal.overflow_cast-to
overflow_cast-to c = omega (arith, c.requires.here.within, c.requires.here.short)

pub rule_type-ty-requires : goal.rule_type-ty-requires
rule_type-ty-requires c = c.requires.here

pub enter_rule-requires : goal.enter_rule-requires
enter_rule-requires c = by_type _ _ _ _ _ _ _ c.rule_type-ty.ensures.is (by_start _ _ _ _ _ _ _ c.first_start-n.ensures c.requires.rules)

pub returns-in-Going : goal.returns-in-Going
returns-in-Going c =
    record {
      is = head_going _ _ _ _ _ _ c.first_start-n.ensures c.rule_type-ty.ensures.is _ c.in-Going.is c.enter_rule.ensures.is;
      moved = told (Passed _ _) (sym c.enter_rule.ensures.kept) c.rule_type-ty.ensures.moved;
      indexed = c.enter_rule.ensures.indexed;
    }

pub returns-in-Done : goal.returns-in-Done
returns-in-Done c =
    record {
      is = head_done _ _ _ _ _ _ c.first_start-n.ensures c.rule_type-ty.ensures.is c.in-Done.is;
      moved = c.rule_type-ty.ensures.moved;
      indexed = by_type _ _ _ _ _ _ _ c.rule_type-ty.ensures.is (by_start _ _ _ _ _ _ _ c.first_start-n.ensures c.requires.rules);
    }

pub returns-in-Refused : goal.returns-in-Refused
returns-in-Refused c =
    record {
      is = head_refused _ _ _ _ _ _ c.first_start-n.ensures c.rule_type-ty.ensures.is _ c.in-Refused.is;
      moved = c.rule_type-ty.ensures.moved;
      indexed = by_type _ _ _ _ _ _ _ c.rule_type-ty.ensures.is (by_start _ _ _ _ _ _ _ c.first_start-n.ensures c.requires.rules);
    }
