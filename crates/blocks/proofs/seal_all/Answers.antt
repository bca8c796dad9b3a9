-- `blocks::seal_all`: the first `k` blocks are closed.
use mathlib.Core.Path.{◌≡◌}
use native.Mathlib.Omega.{arith}
use Rattle.blocks.proofs.Laws.{seal_more, seal_all_none}
use Rattle.blocks.proofs.seal_all.Goals as goal

pub loop-k-init : goal.loop-k-init
loop-k-init c = seal_all_none c.args.out.now

pub loop-k-preserved : goal.loop-k-preserved
loop-k-preserved c = seal_more c.args.out.now c.loop-k.out _ c.loop-k.k c.loop-k.invariant c.seal.ensures

pub returns : goal.returns
returns c =
    let e : c.loop-k.k ≡ c.args.n = omega arith in
    rw e at c.loop-k.invariant
