-- `validation::note_epps`: the faults of the rows so far are noted.
use Rattle.validation.specs.Faults.{epps_faults}
use Rattle.validation.proofs.Noted.{err_is, walk_start, walk_on, walk_over, walk_all}
use Rattle.validation.proofs.note_epps.Goals as goal

pub loop-r-init : goal.loop-r-init
loop-r-init c = walk_start _ _ _

pub loop-r-preserved : goal.loop-r-preserved
loop-r-preserved c = walk_on _ _ _ c.loop-r.r _ _ c.loop-r.invariant _ c.epp_fault-v.ensures _ _ c.note.ensures _ c.in_ok-next.was

pub returns-in_err-next : goal.returns-in_err-next
unfolding epps_faults
returns-in_err-next c =
    rw (err_is c.from_residual.result c.in_err-next.field-0.0 c.from_residual.ensures.1)
    (walk_over _ _ _ c.loop-r.r _ _ c.loop-r.invariant _ c.epp_fault-v.ensures _ _ c.note.ensures _ _ c.loop-r-test.true c.in_err-next.was)

pub returns : goal.returns
unfolding epps_faults
returns c = walk_all _ _ _ _ _ _ c.loop-r.invariant _ c.loop-r.auto.r-end c.loop-r-test.false
