-- `pruner::fill_index`: zero, then all rows.
use Rattle.pruner.proofs.Laws.{zeros_size}
use Rattle.pruner.proofs.fill_index.Goals as goal

pub enter_rows-requires : goal.enter_rows-requires
enter_rows-requires c = rw (zeros_size c.args.ix.now c.zero.new.t c.zero.ensures) c.zero.ensures

pub returns : goal.returns
returns c = rw (zeros_size c.args.ix.now c.zero.new.t c.zero.ensures) at c.enter_rows.ensures
