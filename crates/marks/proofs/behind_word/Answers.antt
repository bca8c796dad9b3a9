-- `marks::behind_word`.
use mathlib.Core.Path.{◌∙◌, ap}
use Rattle.grammar.specs.State.{Out1}
use Rattle.marks.proofs.Laws.{behind_goes, behind_done, behind_refused, behind_counts, onward_then, pass_inside}
use Rattle.marks.proofs.behind_word.Goals as goal

-- spacing that goes on ends in the source
pub number_behind-requires : goal.number_behind-requires
number_behind-requires c =
    record { within = pass_inside _ _ _ c.args.r.answer c.args.r.state _ _ c.pass_on-q.ensures.is c.requires.within c.in-Going.is; short = c.requires.short }

pub returns-in-Going : goal.returns-in-Going
returns-in-Going c =
    let e = behind_goes _ _ _ _ _ _ _ _ _ _ c.pass_on-q.ensures.is _ c.in-Going.is c.number_behind.ensures.is in
    record {
      is = e;
      moved = onward_then _ _ _ _ _ _ _ c.in-Going.is c.pass_on-q.ensures.moved c.number_behind.ensures.moved;
      counted = ap (λ (o : Out1). o.state.counts) e ∙ behind_counts _ _ _ _ _ _ _ _;
    }

pub returns-in-Done : goal.returns-in-Done
returns-in-Done c =
    let e = behind_done _ _ _ _ _ _ _ _ _ _ c.pass_on-q.ensures.is c.in-Done.is in
    record {
      is = e;
      moved = rw c.in-Done.is at c.pass_on-q.ensures.moved;
      counted = ap (λ (o : Out1). o.state.counts) e ∙ behind_counts _ _ _ _ _ _ _ _;
    }

pub returns-in-Refused : goal.returns-in-Refused
returns-in-Refused c =
    let e = behind_refused _ _ _ _ _ _ _ _ _ _ c.pass_on-q.ensures.is _ c.in-Refused.is in
    record {
      is = e;
      moved = rw c.in-Refused.is at c.pass_on-q.ensures.moved;
      counted = ap (λ (o : Out1). o.state.counts) e ∙ behind_counts _ _ _ _ _ _ _ _;
    }
