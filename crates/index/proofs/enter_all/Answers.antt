-- `index::enter_all`: the index so far is that of the rows so far, and what is known of its blocks holds.
use Rattle.index.proofs.Skips.{skips_entered, entries_next, entries_nowhere, entries_start}
use Rattle.index.proofs.enter_all.Goals as goal

pub returns-then-ix-eq0 : goal.returns-then-ix-eq0
returns-then-ix-eq0 c = entries_nowhere _ _ _ _ _ _ c.if-ix-eq0.true

pub loop-r-init : goal.loop-r-init
loop-r-init c = (entries_start _ _ _ _ _ c.requires.0, c.requires.1)

pub loop-r-preserved : goal.loop-r-preserved
loop-r-preserved c = (
  entries_next _ _ _ _ _ c.loop-r.r c.loop-r.ix c.loop-r.invariant.0 _ c.row_slot-z.ensures.is _ c.take_slot.ensures,
  rw c.take_slot.ensures (skips_entered c.loop-r.ix c.loop-r.r _ c.row_slot-z.ensures.skipped _),
)
