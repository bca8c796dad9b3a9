-- `blocks::block_ok`.
use Rattle.blocks.proofs.Laws.{ok_is}
use Rattle.blocks.proofs.block_ok.Goals as goal

pub returns : goal.returns
returns c = ok_is c.args.s.now c.args.at _ _ _ c.check_sums-c.ensures.0 c.pair_of-first.ensures c.pair_of-second.ensures
