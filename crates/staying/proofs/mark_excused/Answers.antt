-- `staying::mark_excused`: nothing is declared, or both tables are gone through.
use native.Mathlib.Omega.{arith}
use Rattle.reach.specs.Reach.{named}
use Rattle.usage.specs.Report.{excuses_of}
use Rattle.staying.proofs.Laws.{excused_none}
use Rattle.staying.proofs.mark_excused.Goals as goal

pub returns-then-expecteds-implicits-eq0 : goal.returns-then-expecteds-implicits-eq0
returns-then-expecteds-implicits-eq0 c =
    let a = c.args in
    excused_none (excuses_of a.src.now a.c a.t4.now a.t6.now) (named a.names.now a.z) a.w.now (omega (arith, c.if-expecteds-implicits-eq0.true, c.rows_of-expecteds.ensures)) (omega (arith, c.if-expecteds-implicits-eq0.true, c.rows_of-implicits.ensures))
