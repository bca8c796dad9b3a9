-- `index::all_stand`: the rows so far stand, and what is known of the blocks holds.
use Rattle.std.proofs.Common.{true, false, refl, arith}
use Rattle.tables.proofs.Below.{below_none, below_on, below_not, below_all}
use Rattle.index.proofs.Skips.{skips_next, stands_found, stands_not, stands_nowhere}
use Rattle.index.proofs.all_stand.Goals as goal

pub loop-r-init : goal.loop-r-init
loop-r-init c = (below_none _, c.requires.1)

pub returns-then-ix-z : goal.returns-then-ix-z
returns-then-ix-z c = below_not _ c.loop-r.r _ false c.loop-r-test.true (stands_nowhere _ _ _ _ _ _ _ c.row_slot-z.ensures.is c.if-ix-z.true) refl

pub returns-then-ix-z-2 : goal.returns-then-ix-z-2
returns-then-ix-z-2 c = below_not _ c.loop-r.r _ false c.loop-r-test.true (stands_not _ _ _ _ _ _ _ c.row_slot-z.ensures.is c.if-ix-z-2.true) refl

pub loop-r-preserved : goal.loop-r-preserved
loop-r-preserved c = (
  below_on _ c.loop-r.r true c.loop-r.invariant.0 (stands_found _ _ _ _ _ _ _ c.row_slot-z.ensures.is c.if-ix-z-2.false) refl,
  skips_next _ _ _ c.row_slot-z.ensures.skipped,
)

pub returns : goal.returns
returns c = below_all _ c.loop-r.r _ c.loop-r.invariant.0 (omega arith) (omega arith)
