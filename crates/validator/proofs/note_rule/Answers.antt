-- `validator::note_rule`: the faults of the rule's productions so far are noted, and the next row is the rule's.
use native.Mathlib.Omega.{arith}
use Rattle.links.proofs.Laws.{next_less}
use Rattle.validation.specs.Faults.{rule_faults}
use Rattle.validation.proofs.Laws.{of_rule_lem, fewer_known}
use Rattle.validation.proofs.Noted.{err_is, walked_length, walk_start, walk_on, walk_over, walk_all, walk_next}
use Rattle.validator.proofs.note_rule.Goals as goal

pub first_of-r-requires : goal.first_of-r-requires
first_of-r-requires c = c.requires.1.first

pub loop-r-init : goal.loop-r-init
loop-r-init c = walk_next _ _ _ _ _ c.first_of-r.ensures (omega arith) _ _ _ _ _ (walk_start _ _ _)

pub note_production-requires : goal.note_production-requires
note_production-requires c = (fewer_known _ _ _ _ _ _ _ _ _ c.loop-r-test.true c.requires.0, c.requires.2)

pub next_of-r-requires : goal.next_of-r-requires
next_of-r-requires c =
    let t = c.loop-r-test.true in
    (c.requires.1.later, t, c.loop-r.invariant.1 t)

pub loop-r-smaller : goal.loop-r-smaller
loop-r-smaller c = next_less _ _ c.loop-r.r _ _ c.next_of-r.ensures c.loop-r-test.true

pub loop-r-preserved : goal.loop-r-preserved
loop-r-preserved c =
    let t = c.loop-r-test.true in
    walk_next _ _ _ _ _ c.next_of-r.ensures (omega arith) _ _ _ _ _
    (walk_on _ _ _ c.loop-r.r _ _ c.loop-r.invariant.2 _ (of_rule_lem _ _ _ _ (c.loop-r.invariant.1 t)) _ _ c.note_production.ensures _ c.in_ok-next.was)

pub returns-in_err-next : goal.returns-in_err-next
unfolding rule_faults
returns-in_err-next c =
    let t = c.loop-r-test.true in
    rw (err_is c.from_residual.result c.in_err-next.field-0.0 c.from_residual.ensures.1)
    (walk_over _ _ _ c.loop-r.r _ _ c.loop-r.invariant.2 _ (of_rule_lem _ _ _ _ (c.loop-r.invariant.1 t)) _ _ c.note_production.ensures _ _ t c.in_err-next.was)

pub shape_of-t14 : goal.shape_of-t14
shape_of-t14 c = walked_length _ _ _ _ _ c.loop-r.invariant.2

pub returns : goal.returns
unfolding rule_faults
returns c = walk_all _ _ _ _ _ _ c.loop-r.invariant.2 _ c.loop-r.invariant.0 c.loop-r-test.false
