-- `index::free_slot`: what is left of the walk gives the whole's answer.
use Rattle.std.proofs.Common.{arith}
use Rattle.index.proofs.Laws.{slot_free, slot_taken, slots_full}
use Rattle.index.proofs.free_slot.Goals as goal

pub returns-then-ix-p-eq0 : goal.returns-then-ix-p-eq0
returns-then-ix-p-eq0 c = slot_free _ _ c.loop.p (omega arith) _ c.loop.invariant.1 c.if-ix-p-eq0.true

pub loop-preserved : goal.loop-preserved
loop-preserved c =
    (c.next_slot-p.ensures.inside, slot_taken _ _ c.loop.p (omega arith) _ c.loop.invariant.1 c.if-ix-p-eq0.false _ c.next_slot-p.ensures.is _ (omega arith))

pub returns : goal.returns
returns c = slots_full _ _ c.loop.p (omega arith) _ c.loop.invariant.1
