-- `catalogue::head_of`.
use Rattle.catalogue.proofs.Laws.{head_is}
use Rattle.catalogue.proofs.head_of.Goals as goal

pub returns : goal.returns
returns c = head_is c.args.m.now _ c.singles_of-singles.ensures
