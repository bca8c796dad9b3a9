-- `validation::note_unused`: the faults of the rows so far are noted.
use native.Mathlib.Omega.{arith}
use Rattle.validation.specs.Faults.{kind_faults, kinds_faults}
use Rattle.validation.proofs.Noted.{err_is, walk_start, walk_all, from_on, from_over}
use Rattle.validation.proofs.note_unused.Goals as goal

pub loop-r-init : goal.loop-r-init
loop-r-init c = walk_start _ _ _

pub loop-r-preserved : goal.loop-r-preserved
loop-r-preserved c =
    from_on (kind_faults _ _ _ _ _ _ _) _ _ _ c.loop-r.r _ _ (omega arith) c.loop-r.invariant _ c.unused_fault-v.ensures _ _ c.note.ensures _ c.in_ok-next.was

pub returns-in_err-next : goal.returns-in_err-next
unfolding kinds_faults
returns-in_err-next c =
    rw (err_is c.from_residual.result c.in_err-next.field-0.0 c.from_residual.ensures.1)
    (from_over (kind_faults _ _ _ _ _ _ _) _ _ _ c.loop-r.r _ _ (omega arith) c.loop-r.invariant _ c.unused_fault-v.ensures _ _ c.note.ensures _ _ c.loop-r-test.true c.in_err-next.was)

pub returns : goal.returns
unfolding kinds_faults
returns c = walk_all _ _ _ _ _ _ c.loop-r.invariant _ (omega (arith, c.loop-r.auto.r-end)) (omega (arith, c.loop-r-test.false))
