-- `pruner::close_by`: all tokens are in the finder.
use Rattle.pruner.proofs.close_by.Goals as goal

pub close_held-requires : goal.close_held-requires
close_held-requires c = (c.requires, record { led = rw c.rows_of-n.ensures at c.enter_rows.ensures.led; apart = c.requires.apart })
