-- `usage::excuses_by`: the one table tells, or else the other.
use Rattle.usage.specs.Report.{excuses_of, expected}
use Rattle.usage.proofs.Picked.{says_yes, says_no}
use Rattle.usage.proofs.Excuses.{excused_says}
use Rattle.usage.proofs.excuses_by.Goals as goal

pub expects_by-requires : goal.expects_by-requires
expects_by-requires c = rw c.rows_of.ensures c.requires.rows_expected

pub returns-then-expects_by : goal.returns-then-expects_by
returns-then-expects_by c = expected (rw c.rows_of.ensures at (says_yes _ _ c.if-expects_by.true c.expects_by.ensures))

pub implies_by-requires : goal.implies_by-requires
implies_by-requires c = rw c.rows_of-2.ensures c.requires.rows_implicit

pub returns : goal.returns
returns c =
    let a = c.args in
    excused_says (excuses_of a.src.now a.c a.t4.now a.t6.now) a.kind a.a a.b c.implies_by.result
    (rw c.rows_of.ensures at (says_no _ _ c.if-expects_by.false c.expects_by.ensures))
    (rw c.rows_of-2.ensures at c.implies_by.ensures)
