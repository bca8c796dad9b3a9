-- `pruner::write_ranks`: slot r is written where r rows are counted.
use mathlib.Core.Path.{◌≡◌}
use native.Mathlib.Omega.{arith}
use Rattle.closing.specs.Close.{by_bit}
use Rattle.pruner.proofs.Laws.{ranked_none, ranked_more, rank_none}
use Rattle.pruner.proofs.write_ranks.Goals as goal

pub loop-r-init : goal.loop-r-init
loop-r-init c = (rank_none (by_bit c.args.ws.now c.args.base), ranked_none (by_bit c.args.ws.now c.args.base) c.args.ix.now)

pub next_rank-m-requires : goal.next_rank-m-requires
next_rank-m-requires c = (c.loop-r.invariant.0, omega arith, c.requires.1)

pub loop-r-preserved : goal.loop-r-preserved
loop-r-preserved c =
    let a = c.args in
    (c.next_rank-m.ensures, ranked_more (by_bit a.ws.now a.base) c.loop-r.r c.loop-r.m c.loop-r.ix (omega (arith, c.loop-r.auto.ix, c.loop-r-test.true, c.requires.0)) c.loop-r.invariant.0 c.loop-r.invariant.1)

pub returns : goal.returns
returns c =
    let e : c.loop-r.r ≡ c.args.n = omega arith in
    rw e at c.loop-r.invariant.1
