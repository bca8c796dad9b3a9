-- `index::many_stand`.
use Rattle.index.proofs.Skips.{skips_none}
use Rattle.index.proofs.many_stand.Goals as goal

pub all_stand-requires : goal.all_stand-requires
all_stand-requires c = (c.requires, skips_none _ _ 16384)

pub returns : goal.returns
returns c = c.all_stand.ensures
