-- `index::enter_many`.
use Rattle.index.proofs.Skips.{skips_none}
use Rattle.index.proofs.enter_many.Goals as goal

pub enter_all-requires : goal.enter_all-requires
enter_all-requires c = (c.requires, skips_none _ _ 16384)

pub returns : goal.returns
returns c = c.enter_all.ensures
