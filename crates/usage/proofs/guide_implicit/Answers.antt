-- `usage::guide_implicit`: the rows passed so far are led to.
use Prim.Native.Nat.{ℕ}
use mathlib.Core.Bool.{true}
use mathlib.Core.Path.{◌≡◌}
use native.Mathlib.Omega.{arith}
use Rattle.finder.proofs.Laws.{grown_none, grown_on, led_more}
use Rattle.usage.proofs.guide_implicit.Goals as goal

pub loop-r-init : goal.loop-r-init
loop-r-init c = (grown_none _, λ r l y. absurd (omega arith))

pub loop-r-preserved : goal.loop-r-preserved
loop-r-preserved c =
    let a = c.args in
    let g = c.enter.ensures.grown in
    (grown_on _ _ _ c.loop-r.invariant.0 g, led_more (λ (q : ℕ). true) a.src.now 2 0 a.t4.now c.loop-r.r c.loop-r.fx _ c.loop-r.invariant.1 g (λ y. c.enter.ensures.led))

pub returns : goal.returns
returns c =
    let e : c.loop-r.r ≡ c.args.n = omega arith in
    record {
      grown = c.loop-r.invariant.0;
      led = rw e at c.loop-r.invariant.1;
    }
