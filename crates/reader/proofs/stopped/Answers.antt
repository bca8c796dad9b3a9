-- `reader::stopped`.
use Rattle.reader.proofs.Laws.{stopped_at_lem}
use Rattle.reader.proofs.stopped.Goals as goal

pub returns : goal.returns
returns c = stopped_at_lem c.args.s _ _ _ c.count_of-n.ensures c.no_singles.ensures
