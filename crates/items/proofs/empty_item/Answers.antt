-- `items::empty_item`: spacing, then what may follow.
use Rattle.grammar.proofs.Steps.{gap_passed, passed_fits, still}
use Rattle.items.proofs.Marks.{empty_stands, empty_not, empty_gap_lem}
use Rattle.items.proofs.empty_item.Goals as goal

pub overflow_cast-made : goal.overflow_cast-made
overflow_cast-made c = passed_fits _ _ _ c.requires (still _ _ c.requires)

pub returns-then-no_symbol-may_follow : goal.returns-then-no_symbol-may_follow
returns-then-no_symbol-may_follow c =
    let e = c.in-Ok.is in
    record {
      is = empty_stands _ _ _ _ _ c.pass_gap.ensures.is _ _ e _ c.count_of.ensures _ c.may_follow.ensures c.if-no_symbol-may_follow.true;
      moved = gap_passed _ _ _ _ _ c.pass_gap.ensures.moved e;
    }

pub returns-else-no_symbol-may_follow : goal.returns-else-no_symbol-may_follow
returns-else-no_symbol-may_follow c =
    let e = c.in-Ok.is in
    record {
      is = empty_not _ _ _ _ _ c.pass_gap.ensures.is _ _ e _ c.count_of.ensures _ c.may_follow.ensures c.if-no_symbol-may_follow.false;
      moved = still _ _ c.requires;
    }

pub returns-in-Err : goal.returns-in-Err
returns-in-Err c =
    record {
      is = empty_gap_lem _ _ _ _ _ c.pass_gap.ensures.is _ c.in-Err.is;
      moved = still _ _ c.requires;
    }
