-- `restoring::test_filled`: the indexes are entered and then tested.
use Rattle.restoring.proofs.Laws.{tested}
use Rattle.restoring.proofs.test_filled.Goals as goal

pub shape_of-i1 : goal.shape_of-i1
shape_of-i1 c = c.enter_indexes.auto.i1

pub shape_of-i7 : goal.shape_of-i7
shape_of-i7 c = c.enter_indexes.auto.i7

pub returns : goal.returns
returns c = tested _ _ _ _ _ _ _ _ _ _ c.enter_indexes.ensures.0 c.enter_indexes.ensures.1 c.is_sound.ensures
