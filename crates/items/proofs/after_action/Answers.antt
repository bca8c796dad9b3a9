-- `items::after_action`: spacing, then the production's end.
use Rattle.grammar.proofs.Steps.{gap_passed, passed_fits, gap_onward, refused_stays}
use Rattle.items.proofs.Marks.{action_ends, action_more, action_gap_lem}
use Rattle.items.proofs.after_action.Goals as goal

pub may_end-requires : goal.may_end-requires
may_end-requires c = tt

pub returns-then-may_end : goal.returns-then-may_end
returns-then-may_end c =
    let e = c.in-Ok.is in
    record {
      is = action_ends _ _ _ _ _ c.pass_gap.ensures.is _ _ e _ c.may_end.ensures c.if-may_end.true;
      moved = gap_onward _ _ _ _ _ _ _ c.pass_gap.ensures.moved e;
    }

pub overflow_cast-result : goal.overflow_cast-result
overflow_cast-result c = passed_fits _ _ _ c.requires (gap_passed _ _ _ _ _ c.pass_gap.ensures.moved c.in-Ok.is)

pub returns-else-may_end : goal.returns-else-may_end
returns-else-may_end c =
    let e = c.in-Ok.is in
    record {
      is = action_more _ _ _ _ _ c.pass_gap.ensures.is _ _ e _ c.may_end.ensures c.if-may_end.false;
      moved = gap_onward _ _ _ _ _ _ _ c.pass_gap.ensures.moved e;
    }

pub returns-in-Err : goal.returns-in-Err
returns-in-Err c =
    record {
      is = action_gap_lem _ _ _ _ _ c.pass_gap.ensures.is _ c.in-Err.is;
      moved = refused_stays _ _ _ _;
    }
