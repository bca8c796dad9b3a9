-- `usage::guide_expected`: the rows passed so far are led to.
use mathlib.Core.Path.{◌≡◌}
use native.Mathlib.Omega.{arith}
use Rattle.finder.proofs.Laws.{grown_none, grown_on}
use Rattle.usage.proofs.Guided.{stand_ins_more}
use Rattle.usage.proofs.guide_expected.Goals as goal

pub loop-r-init : goal.loop-r-init
loop-r-init c = (grown_none _, λ r l y. absurd (omega arith))

pub loop-r-preserved : goal.loop-r-preserved
loop-r-preserved c =
    let g = c.guide_row.ensures.grown in
    (grown_on _ _ _ c.loop-r.invariant.0 g, stand_ins_more _ _ _ _ _ _ c.loop-r.invariant.1 g c.guide_row.ensures.led)

pub returns : goal.returns
returns c =
    let e : c.loop-r.r ≡ c.args.n = omega arith in
    record {
      grown = c.loop-r.invariant.0;
      led = rw e at c.loop-r.invariant.1;
    }
