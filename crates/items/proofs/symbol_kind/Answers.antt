-- `items::symbol_kind`.
use Rattle.items.proofs.Symbols.{kind_token, kind_rule, kind_new}
use Rattle.items.proofs.symbol_kind.Goals as goal

pub find-requires : goal.find-requires
find-requires c = c.requires

pub returns-then-cell-eq1 : goal.returns-then-cell-eq1
returns-then-cell-eq1 c = kind_token _ _ _ _ _ _ c.find.ensures _ _ c.in-Some.is c.cell.ensures c.if-cell-eq1.true

pub returns-else-cell-eq1 : goal.returns-else-cell-eq1
returns-else-cell-eq1 c = kind_rule _ _ _ _ _ _ c.find.ensures _ _ c.in-Some.is c.cell.ensures c.if-cell-eq1.false

pub returns-in-None : goal.returns-in-None
returns-in-None c = kind_new _ _ _ _ _ _ c.find.ensures c.in-None.is
