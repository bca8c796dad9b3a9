-- `index::open_slot`: what is left of the walk gives the whole's answer.
use Rattle.std.proofs.Common.{arith, rules}
use Rattle.index.proofs.Skips.{taken_both, taken_end, run_inside, walk_full, walk_found, walk_on, walk_end}
use Rattle.index.proofs.open_slot.Goals as goal

pub block_end-end-requires : goal.block_end-end-requires
block_end-end-requires c =
    taken_end _ _ c.loop-left.p _ (c.known_end-start.ensures.known _ _ c.requires.1) c.known_end-start.ensures.behind (omega (arith, c.loop-left.invariant.0))

pub open_within-z-requires : goal.open_within-z-requires
open_within-z-requires c =
    let i = taken_end _ _ c.loop-left.p _ (c.known_end-start.ensures.known _ _ c.requires.1) c.known_end-start.ensures.behind (omega (arith, c.loop-left.invariant.0)) in
    (omega (arith, i, c.block_end-end.ensures.behind), c.block_end-end.ensures.inside)

pub returns-then-left-run : goal.returns-then-left-run
returns-then-left-run c =
    walk_full _ _ c.loop-left.left c.loop-left.p _ c.loop-left-test.true c.loop-left.invariant.1 _ (taken_both _ _ _ _ _ (c.known_end-start.ensures.known _ _ c.requires.1) c.open_within-z.ensures.passed.2) (omega (arith, c.loop-left-test.true, c.if-left-run.true)) c.if-left-run.true

pub returns-then-z-end : goal.returns-then-z-end
returns-then-z-end c =
    walk_found _ _ c.loop-left.left c.loop-left.p _ c.loop-left-test.true c.loop-left.invariant.1 _ (taken_both _ _ _ _ _ (c.known_end-start.ensures.known _ _ c.requires.1) c.open_within-z.ensures.passed.2) (omega (arith, c.known_end-start.ensures.behind, c.open_within-z.ensures.passed.0)) (omega (arith, c.if-z-end.true, c.block_end-end.ensures.inside)) c.if-left-run.false (c.open_within-z.ensures.found c.if-z-end.true)

pub next_slot-p-requires : goal.next_slot-p-requires
next_slot-p-requires c =
    run_inside _ _ c.loop-left.left c.loop-left.p _ c.loop-left-test.true c.loop-left.invariant.1 _ (taken_both _ _ _ _ _ (c.known_end-start.ensures.known _ _ c.requires.1) c.open_within-z.ensures.passed.2) (omega (arith, c.loop-left.invariant.0, c.known_end-start.ensures.behind, c.block_end-end.ensures.behind, c.open_within-z.ensures.passed.0, c.if-z-end.false))

pub loop-left-smaller : goal.loop-left-smaller
loop-left-smaller c =
    omega (arith, c.loop-left-test.true, c.if-left-run.false, c.loop-left.invariant.0, c.known_end-start.ensures.behind, c.block_end-end.ensures.behind, c.open_within-z.ensures.passed.0, c.if-z-end.false)

pub loop-left-preserved : goal.loop-left-preserved
loop-left-preserved c = (
  c.next_slot-p.ensures.inside,
  walk_on _ _ c.loop-left.left c.loop-left.p _ c.loop-left-test.true c.loop-left.invariant.1 _ (taken_both _ _ _ _ _ (c.known_end-start.ensures.known _ _ c.requires.1) c.open_within-z.ensures.passed.2) (omega (arith, c.loop-left.invariant.0, c.known_end-start.ensures.behind, c.block_end-end.ensures.behind, c.open_within-z.ensures.passed.0, c.if-z-end.false)) c.if-left-run.false _ c.next_slot-p.ensures.is,
)

pub returns : goal.returns
returns c = search (walk_end, rules)
