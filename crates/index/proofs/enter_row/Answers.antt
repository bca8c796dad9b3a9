-- `index::enter_row`.
use Rattle.index.proofs.Laws.{enter_nowhere, enter_slot, enter_full}
use Rattle.index.proofs.enter_row.Goals as goal

pub returns-then-m-eq0 : goal.returns-then-m-eq0
returns-then-m-eq0 c = enter_nowhere _ _ _ _ _ c.if-m-eq0.true _

pub returns-then-z-m : goal.returns-then-z-m
returns-then-z-m c = enter_slot _ _ _ _ _ _ _ _ _ _ c.cell-a.ensures c.cell-b.ensures c.home_slot-p.ensures.is c.free_slot-z.ensures

pub returns-else-z-m : goal.returns-else-z-m
returns-else-z-m c = enter_full _ _ _ _ _ _ _ _ _ _ c.cell-a.ensures c.cell-b.ensures c.home_slot-p.ensures.is c.free_slot-z.ensures c.if-z-m.false
