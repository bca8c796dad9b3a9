-- `items::may_follow`.
use Rattle.items.proofs.Marks.{may_follow_is}
use Rattle.items.proofs.may_follow.Goals as goal

pub returns : goal.returns
returns c = may_follow_is _ _ _ _ _ c.may_end.ensures c.is_at.ensures c.starts.ensures
