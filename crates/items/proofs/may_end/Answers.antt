-- `items::may_end`.
use Rattle.items.proofs.Marks.{may_end_is}
use Rattle.items.proofs.may_end.Goals as goal

pub is_at-requires : goal.is_at-requires
is_at-requires c = tt

pub is_at-requires-2 : goal.is_at-requires-2
is_at-requires-2 c = tt

pub returns : goal.returns
returns c = may_end_is _ _ _ _ c.is_at.ensures c.is_at-2.ensures
