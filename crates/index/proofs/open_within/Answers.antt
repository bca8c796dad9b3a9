-- `index::open_within`: earlier rows have the slots so far.
use Rattle.std.proofs.Common.{arith}
use Rattle.index.proofs.Skips.{taken_none}
use Rattle.index.proofs.open_within.Goals as goal

pub loop-q-init : goal.loop-q-init
loop-q-init c = taken_none _ _ _ _ (omega arith)
