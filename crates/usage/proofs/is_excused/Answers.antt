-- `usage::is_excused`: the one table tells, or else the other.
use Rattle.usage.specs.Report.{excuses_of, expected}
use Rattle.usage.proofs.Picked.{says_yes, says_no}
use Rattle.usage.proofs.Excuses.{excused_says}
use Rattle.usage.proofs.is_excused.Goals as goal

pub returns-then-is_expected : goal.returns-then-is_expected
returns-then-is_expected c = expected (rw c.rows_of.ensures at (says_yes _ _ c.if-is_expected.true c.is_expected.ensures))

pub returns : goal.returns
returns c =
    let a = c.args in
    excused_says (excuses_of a.src.now a.c a.t4.now a.t6.now) a.kind a.a a.b c.is_implicit.result
    (rw c.rows_of.ensures at (says_no _ _ c.if-is_expected.false c.is_expected.ensures))
    (rw c.rows_of-2.ensures at c.is_implicit.ensures)
