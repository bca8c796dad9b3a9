-- `reach::spread`: a round along chains, then passes, each with fewer bits left, until one marks nothing.
use mathlib.Core.Path.{refl, sym, ◌∙◌}
use native.Mathlib.Omega.{arith}
use Rattle.bits.proofs.Bits.{bit_zeros}
use Rattle.reach.specs.Reach.{named, net, rule_sort, Rushed}
use Rattle.reach.proofs.Laws.{fits_on}
use Rattle.reach.proofs.Sweeps.{rushed_none, rushed_then, rushed_swept, rushed_done, fewer}
use Rattle.reach.proofs.spread.Goals as goal
use Rattle.reach.proofs.spread.Goals.{then-rows_of, else-rows_of}

pub loop-c-init : goal.loop-c-init
loop-c-init c = (rushed_none _ _ _, λ a b e n. absurd (omega (arith, bit_zeros 512 a)), refl)

pub slice_bounds-round-end : goal.slice_bounds-round-end
slice_bounds-round-end c = sym c.loop-c.invariant.2

pub round-requires : goal.round-requires
round-requires c =
    (fits_on _ c.args.w.now _ (c.loop-c.invariant.0.size ∙ (let rushed : Rushed (net c.args.src.now c.args.c c.args.prods.now c.args.syms.now) (named c.args.rules.now (rule_sort c.args.c)) c.args.w.now c.if-rows_of.w = elim c.if-rows_of.branch [ then-rows_of s ↦ rw s.w-is s.rush_in.ensures | else-rows_of s ↦ rw s.w-is s.rush_in-else-rows_of.ensures ] in rushed.size)) c.requires.0, c.requires.1, c.loop-c.invariant.1)

pub loop-c-smaller : goal.loop-c-smaller
loop-c-smaller c = fewer c.loop-c.w c.round.new.w c.round.result c.round.ensures.0.size c.loop-c-test.true c.round.ensures.0.grew

pub loop-c-preserved : goal.loop-c-preserved
loop-c-preserved c = (rushed_swept c.loop-c.invariant.0 c.round.ensures.0, c.round.ensures.1, c.round.auto.done ∙ c.loop-c.invariant.2)

pub shape_of-w : goal.shape_of-w
shape_of-w c =
    c.round.ensures.0.size ∙ c.loop-c.invariant.0.size ∙ (let rushed : Rushed (net c.args.src.now c.args.c c.args.prods.now c.args.syms.now) (named c.args.rules.now (rule_sort c.args.c)) c.args.w.now c.if-rows_of.w = elim c.if-rows_of.branch [ then-rows_of s ↦ rw s.w-is s.rush_in.ensures | else-rows_of s ↦ rw s.w-is s.rush_in-else-rows_of.ensures ] in rushed.size)

pub returns : goal.returns
returns c =
    rushed_done c.loop-c-test.false (rushed_then ((elim c.if-rows_of.branch [ then-rows_of s ↦ rw s.w-is s.rush_in.ensures | else-rows_of s ↦ rw s.w-is s.rush_in-else-rows_of.ensures ])) c.loop-c.invariant.0) c.round.ensures.0
