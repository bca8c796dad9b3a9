-- `links::link_one`: behind the production comes what its rule had first so far, and it is the first of its rule now.
use native.Mathlib.Omega.{arith}
use Rattle.links.proofs.Laws.{next_most, linked_on}
use Rattle.links.proofs.link_one.Goals as goal

pub store-requires : goal.store-requires
store-requires c = omega (arith, next_most _ _ _ _ _ c.first_of-later.ensures c.requires.1, c.requires.2)

pub store-requires-2 : goal.store-requires-2
store-requires-2 c = omega (arith, c.requires.1, c.requires.2)

pub returns : goal.returns
returns c = linked_on _ _ _ _ _ _ _ c.requires.0 c.requires.1 c.cell-k.ensures c.first_of-later.ensures _ _ c.store.ensures c.store-2.ensures
