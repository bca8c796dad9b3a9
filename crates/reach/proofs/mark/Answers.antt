-- `reach::mark`: the bit is there, or it is new.
use Rattle.reach.proofs.Laws.{mark_there, mark_new}
use Rattle.reach.proofs.mark.Goals as goal

pub returns-then-test_bit : goal.returns-then-test_bit
returns-then-test_bit c = mark_there _ _ _ c.test_bit.ensures c.if-test_bit.true

pub returns : goal.returns
returns c = mark_new _ _ _ _ c.requires c.test_bit.ensures c.if-test_bit.false c.set_bit.ensures
