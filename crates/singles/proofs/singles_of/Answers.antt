-- `singles::singles_of`: each single stands where the definition looks for it.
use Rattle.singles.proofs.Laws.{singles_are}
use Rattle.singles.proofs.singles_of.Goals as goal

pub returns : goal.returns
returns c =
    singles_are c.args.m.now _ _ _ _ _ _ c.part_from.ensures c.expect_from.ensures c.expect_from-2.ensures c.param_from.ensures c.part_from-2.ensures c.part_from-3.ensures
