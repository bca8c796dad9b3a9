-- `index::count_filled`: those counted and those left are all.
use Rattle.std.proofs.Common.{arith}
use Rattle.index.proofs.Laws.{count_start, count_taken, count_free, count_end}
use Rattle.index.proofs.count_filled.Goals as goal
use Rattle.index.proofs.count_filled.Goals.{then-v-ne0, else-v-ne0}

pub loop-v-init : goal.loop-v-init
loop-v-init c = (omega arith, count_start _)

pub loop-v-preserved : goal.loop-v-preserved
loop-v-preserved c =
    let b = c.loop-v-test.true in
    elim c.if-v-ne0.branch [
      | then-v-ne0 w ↦ (omega arith, rw w.n-is (count_taken _ c.loop-v.v-index c.loop-v.n _ c.loop-v.invariant.1 b w.if-v-ne0.true))
      | else-v-ne0 w ↦ (omega arith, rw w.n-is (count_free _ c.loop-v.v-index c.loop-v.n _ c.loop-v.invariant.1 b w.if-v-ne0.false))
    ]

pub returns : goal.returns
returns c = count_end _ c.loop-v.v-index _ _ c.loop-v.invariant.1 (omega arith)
