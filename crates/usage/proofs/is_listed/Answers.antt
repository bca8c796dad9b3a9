-- `usage::is_listed`: the bit is tested first, then the name.
use Rattle.reach.specs.Reach.{named}
use Rattle.usage.specs.Report.{excuses_of}
use Rattle.usage.proofs.Excuses.{marked_not_free, free_says}
use Rattle.usage.proofs.is_listed.Goals as goal

pub returns-then-test_bit : goal.returns-then-test_bit
returns-then-test_bit c =
    let a = c.args in
    marked_not_free a.w.now (excuses_of a.src.now a.c a.t4.now a.t6.now) (named a.names.now a.z) a.row _ c.test_bit.ensures c.if-test_bit.true

pub excuses_by-requires : goal.excuses_by-requires
excuses_by-requires c = c.requires.1

pub returns : goal.returns
returns c =
    let a = c.args in
    free_says a.w.now (excuses_of a.src.now a.c a.t4.now a.t6.now) (named a.names.now a.z) a.row _ _ _ c.excuses_by.result c.test_bit.ensures c.if-test_bit.false c.cell-a.ensures c.cell-b.ensures c.excuses_by.ensures
