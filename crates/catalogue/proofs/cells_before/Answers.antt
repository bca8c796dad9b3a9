-- `catalogue::cells_before`: the cells of the first `i` tables.
use mathlib.Core.Path.{◌≡◌}
use native.Mathlib.Omega.{arith}
use Rattle.catalogue.proofs.Laws.{before_none, before_more}
use Rattle.catalogue.proofs.cells_before.Goals as goal

pub loop-i-init : goal.loop-i-init
loop-i-init c = (omega arith, before_none c.args.c c.args.p)

pub loop-i-preserved : goal.loop-i-preserved
loop-i-preserved c =
    let a = c.args in
    (omega (arith, c.loop-i.invariant.0, c.cells_at-n.ensures.upper_bound), before_more a.c a.p c.loop-i.i c.loop-i.n _ c.loop-i.invariant.1 c.cells_at-n.ensures.value)

pub returns : goal.returns
returns c =
    let e : c.loop-i.i ≡ c.args.k = omega arith in
    record {
      value = rw e at c.loop-i.invariant.1;
      upper_bound = rw e at c.loop-i.invariant.0;
    }
