-- `usage::guide_row`: a row of another kind is not entered, nor one that another stands in for.
use mathlib.Core.Path.{◌∙◌}
use native.Mathlib.Omega.{arith}
use Rattle.finder.proofs.Laws.{grown_none}
use Rattle.usage.proofs.Guided.{stand_in_grown, stand_in_self}
use Rattle.usage.proofs.guide_row.Goals as goal

pub returns-then-cell-kind : goal.returns-then-cell-kind
returns-then-cell-kind c =
    record {
      grown = grown_none _;
      led = λ e. absurd (c.if-cell-kind.true (c.cell.ensures ∙ e));
    }

pub returns-then-has_stand_in : goal.returns-then-has_stand_in
returns-then-has_stand_in c =
    record {
      grown = grown_none _;
      led = λ e. stand_in_grown _ _ _ _ _ _ _ _ (omega arith) (grown_none _) (c.has_stand_in.ensures c.if-has_stand_in.true);
    }

pub returns : goal.returns
returns c =
    record {
      grown = c.enter.ensures.grown;
      led = λ e. stand_in_self _ _ _ _ _ e c.enter.ensures.led;
    }
