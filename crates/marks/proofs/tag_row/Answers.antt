-- `marks::tag_row`.
use mathlib.Core.Path.{◌∙◌, ap, refl}
use Rattle.grammar.specs.State.{Out1}
use Rattle.marks.proofs.Laws.{tag_none, tag_pushed, tag_done, tag_refused, tag_counts}
use Rattle.marks.proofs.tag_row.Goals as goal

pub returns-in-None : goal.returns-in-None
returns-in-None c =
    record {
      is = tag_none _ _ _ _ _ _ c.in-Going.is c.in-None.is;
      kept = refl;
      counted = refl;
    }

pub returns-in-Some : goal.returns-in-Some
returns-in-Some c =
    let e = tag_pushed _ _ _ _ _ _ _ _ _ c.in-Going.is c.in-Some.is c.push.ensures.is in
    record {
      is = e;
      kept = c.push.ensures.kept;
      counted = ap (λ (o : Out1). o.state.counts) e ∙ tag_counts _ _ _ _ _ _;
    }

pub returns-in-Done : goal.returns-in-Done
returns-in-Done c =
    record {
      is = tag_done _ _ _ _ _ _ c.in-Done.is;
      kept = refl;
      counted = refl;
    }

pub returns-in-Refused : goal.returns-in-Refused
returns-in-Refused c =
    record {
      is = tag_refused _ _ _ _ _ _ _ c.in-Refused.is;
      kept = refl;
      counted = refl;
    }
