-- `names::part`.
use Rattle.names.proofs.Laws.{part_back, part_past, part_is}
use Rattle.names.proofs.part.Goals as goal

pub returns-then-b-a : goal.returns-then-b-a
returns-then-b-a c = part_back _ _ _ c.if-b-a.true

pub returns-then-src-b : goal.returns-then-src-b
returns-then-src-b c = part_past _ _ _ c.if-b-a.false c.if-src-b.true

pub returns : goal.returns
returns c = part_is _ _ _ c.if-b-a.false c.if-src-b.false
