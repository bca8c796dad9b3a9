-- `shipping::shipped_kind`.
use Rattle.shipping.proofs.Laws.{kind_none, kind_same}
use Rattle.shipping.proofs.shipped_kind.Goals as goal

pub returns-then-kind-gt3 : goal.returns-then-kind-gt3
returns-then-kind-gt3 c = kind_none c.args.kind c.if-kind-gt3.true

pub returns : goal.returns
returns c = kind_same c.args.kind c.if-kind-gt3.false
