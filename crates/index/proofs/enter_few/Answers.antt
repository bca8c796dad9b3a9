-- `index::enter_few`.
use Rattle.index.proofs.Skips.{skips_none}
use Rattle.index.proofs.enter_few.Goals as goal

pub enter_all-requires : goal.enter_all-requires
enter_all-requires c = (c.requires, skips_none _ _ 256)

pub returns : goal.returns
returns c = c.enter_all.ensures
