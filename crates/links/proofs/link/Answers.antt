-- `links::link`: at first no production is linked, then one more with each turn, and all of them at row 0.
use native.Mathlib.Omega.{arith}
use lib.ListN.{length}
use Rattle.links.proofs.Laws.{linked_none, linked_at}
use Rattle.links.proofs.link.Goals as goal

pub loop-r-init : goal.loop-r-init
loop-r-init c = linked_none _ _ (length c.args.heads.now) _ _ c.fill.ensures

pub link_one-requires : goal.link_one-requires
link_one-requires c = (linked_at _ _ c.loop-r.r _ _ _ c.loop-r.invariant (omega arith), omega arith, c.requires)

pub returns : goal.returns
returns c = linked_at _ _ c.loop-r.r 0 _ _ c.loop-r.invariant (omega arith)
