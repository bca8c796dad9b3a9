-- `index::name_fresh`.
use Rattle.index.proofs.Laws.{fresh_found, fresh_none}
use Rattle.index.proofs.name_fresh.Goals as goal

pub find-requires : goal.find-requires
find-requires c = c.requires.0

pub returns-in-Some : goal.returns-in-Some
returns-in-Some c = fresh_found _ _ _ _ _ _ c.requires.1 _ _ c.cell-a.ensures c.cell-b.ensures _ c.find.ensures _ c.in-Some.is

pub returns-in-None : goal.returns-in-None
returns-in-None c = fresh_none _ _ _ _ _ _ c.requires.1 _ _ c.cell-a.ensures c.cell-b.ensures _ c.find.ensures c.in-None.is
