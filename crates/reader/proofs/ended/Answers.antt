-- `reader::ended`: accepted, or refused for its first repeat.
use native.Mathlib.Omega.{arith}
use Rattle.reader.proofs.Laws.{accepted, repeated}
use Rattle.reader.proofs.ended.Goals as goal

pub overflow_cast-end : goal.overflow_cast-end
overflow_cast-end c = omega (arith, c.requires)

pub returns-then-count_of-eq0 : goal.returns-then-count_of-eq0
returns-then-count_of-eq0 c = accepted _ _ _ c.count_of.ensures c.if-count_of-eq0.true

pub returns : goal.returns
returns c =
    repeated _ _ _ c.count_of.ensures _ _ _ _ c.if-count_of-eq0.false c.cell.ensures c.repeat_of-what.ensures c.cell-from.ensures c.cell-to.ensures
