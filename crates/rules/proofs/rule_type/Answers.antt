-- `rules::rule_type`.
use borrow.Author.Tests.{eq-eqb, ne_eqb}
use Rattle.grammar.proofs.Steps.{still}
use Rattle.rules.proofs.Laws.{type_arrow, type_given}
use Rattle.rules.proofs.rule_type.Goals as goal

pub returns-then-s-eq2 : goal.returns-then-s-eq2
returns-then-s-eq2 c =
    record {
      is = type_arrow _ _ _ (eq-eqb _ _ c.if-s-eq2.true) c.arrow_type.ensures.is;
      moved = c.arrow_type.ensures.moved;
    }

pub returns : goal.returns
returns c =
    record {
      is = type_given _ _ (ne_eqb _ _ c.if-s-eq2.false);
      moved = still _ _ c.requires;
    }
