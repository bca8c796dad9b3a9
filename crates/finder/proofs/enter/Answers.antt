-- `finder::enter`: what the slots that are left lead to is led to from the seat.
use mathlib.Core.Path.{refl}
use native.Mathlib.Omega.{arith}
use native.Mathlib.Nat.{sub-zero}
use lib.ListN.{length}
use Rattle.finder.proofs.Laws.{behind_start, behind_on, behind_set, behind_end, grown_none, grown_set, led_nowhere, led_number}
use Rattle.finder.proofs.enter.Goals as goal

pub returns-then-m-eq0 : goal.returns-then-m-eq0
returns-then-m-eq0 c =
    record {
      grown = grown_none _;
      led = led_nowhere _ _ _ c.if-m-eq0.true;
    }

pub loop-init : goal.loop-init
loop-init c =
    (c.seat-p.ensures.inside, refl, rw (sub-zero (length c.args.ix.now)) (behind_start _ _ _ _ (rw (← led_number _ _ _ _ _ _ _ _ c.cell-a.ensures c.cell-b.ensures c.number_of-x.ensures) c.seat-p.ensures.is)))

pub returns-then-ix-p-eq0 : goal.returns-then-ix-p-eq0
returns-then-ix-p-eq0 c =
    record {
      grown = rw c.loop.invariant.1 (grown_set _ _ _ (rw (← c.loop.invariant.1) c.if-ix-p-eq0.true));
      led = rw (← c.mark_of-v.ensures) (behind_set _ _ _ _ _ (omega arith) c.loop.invariant.2 c.loop.invariant.0 c.if-ix-p-eq0.true);
    }

pub loop-preserved : goal.loop-preserved
loop-preserved c =
    (rw c.loop.invariant.1 c.next_slot-p.ensures.inside, c.loop.invariant.1, behind_on _ _ _ _ _ (omega arith) c.loop.invariant.2 c.if-ix-p-eq0.false _ (rw c.loop.invariant.1 c.next_slot-p.ensures.is) _ (omega arith))

pub returns : goal.returns
returns c =
    record {
      grown = rw c.loop.invariant.1 (grown_none _);
      led = rw (← c.mark_of-v.ensures) (behind_end _ _ _ _ _ (omega arith) c.loop.invariant.2);
    }
