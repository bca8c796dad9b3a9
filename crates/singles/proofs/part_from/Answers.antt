-- `singles::part_from`.
use Rattle.singles.proofs.Laws.{part_absent, part_given}
use Rattle.singles.proofs.part_from.Goals as goal

pub returns-then-f-eq0 : goal.returns-then-f-eq0
returns-then-f-eq0 c = part_absent _ _ _ c.if-f-eq0.true

pub returns : goal.returns
returns c = part_given _ _ _ c.if-f-eq0.false
