-- `staying::mark_led`: table 6, then table 4.
use Rattle.reach.specs.Reach.{named}
use Rattle.usage.specs.Report.{excuses_of}
use Rattle.staying.proofs.Laws.{excused_both}
use Rattle.staying.proofs.mark_led.Goals as goal

pub returns : goal.returns
returns c =
    let a = c.args in
    excused_both (excuses_of a.src.now a.c a.t4.now a.t6.now) (named a.names.now a.z) a.w.now _ _ (rw c.rows_of.ensures at c.mark_expected.ensures) (rw c.rows_of-2.ensures at c.mark_implicit.ensures)
