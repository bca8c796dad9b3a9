-- `sound::ranges_sound`: the rows so far follow one another, up to the last one's end.
use mathlib.Core.Path.{refl}
use native.Mathlib.Omega.{arith}
use Rattle.tables.proofs.Below.{below_none, below_on, below_not}
use Rattle.sound.proofs.Laws.{before_first, before_next, ranges_not, ranges_all}
use Rattle.sound.proofs.ranges_sound.Goals as goal

pub loop-r-init : goal.loop-r-init
loop-r-init c = (below_none _, before_first _ _ _ refl refl)

pub returns-then-not-range_sound : goal.returns-then-not-range_sound
returns-then-not-range_sound c = ranges_not _ _ _ (below_not _ c.loop-r.r _ _ c.loop-r-test.true c.range_sound.ensures c.if-not-range_sound.true-raw)

pub loop-r-preserved : goal.loop-r-preserved
loop-r-preserved c =
    (below_on _ c.loop-r.r _ c.loop-r.invariant.0 c.range_sound.ensures c.if-not-range_sound.false-raw, before_next _ c.loop-r.r _ c.cell-end.ensures)

pub returns : goal.returns
returns c = ranges_all _ _ _ c.loop-r.r c.loop-r.end c.loop-r.invariant.0 c.loop-r.invariant.1 (omega arith) (omega arith)
