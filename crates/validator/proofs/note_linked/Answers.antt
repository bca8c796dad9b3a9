-- `validator::note_linked`: the faults of the rules so far are noted.
use mathlib.Core.Path.{refl}
use Rattle.validation.specs.Faults.{rules_faults}
use Rattle.validation.proofs.Noted.{err_is, walk_start, walk_on, walk_over, walk_all}
use Rattle.validator.proofs.note_linked.Goals as goal

pub loop-k-init : goal.loop-k-init
loop-k-init c = walk_start _ _ _

pub loop-k-preserved : goal.loop-k-preserved
loop-k-preserved c = walk_on _ _ _ c.loop-k.k _ _ c.loop-k.invariant _ refl _ _ c.note_rule.ensures _ c.in_ok-next.was

pub returns-in_err-next : goal.returns-in_err-next
unfolding rules_faults
returns-in_err-next c =
    rw (err_is c.from_residual.result c.in_err-next.field-0.0 c.from_residual.ensures.1)
    (walk_over _ _ _ c.loop-k.k _ _ c.loop-k.invariant _ refl _ _ c.note_rule.ensures _ _ c.loop-k-test.true c.in_err-next.was)

pub returns : goal.returns
unfolding rules_faults
returns c = walk_all _ _ _ _ _ _ c.loop-k.invariant _ c.loop-k.auto.k-end c.loop-k-test.false
