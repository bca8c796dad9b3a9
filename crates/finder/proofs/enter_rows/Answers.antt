-- `finder::enter_rows`: the slots lead to the rows so far.
use native.Mathlib.Omega.{arith}
use Rattle.finder.proofs.Laws.{grown_none, grown_on, led_on, led_all}
use Rattle.finder.proofs.enter_rows.Goals as goal

pub loop-r-init : goal.loop-r-init
loop-r-init c = (grown_none _, λ r l. absurd (omega arith))

pub loop-r-preserved : goal.loop-r-preserved
loop-r-preserved c =
    (grown_on _ _ _ c.loop-r.invariant.0 c.enter.ensures.grown, led_on _ _ _ c.args.t.now _ c.loop-r.r c.loop-r.invariant.1 _ c.enter.ensures.grown c.enter.ensures.led)

pub returns : goal.returns
returns c =
    record {
      grown = c.loop-r.invariant.0;
      led = led_all _ _ _ c.args.t.now _ c.loop-r.r _ c.loop-r.invariant.1 (omega arith);
    }
