-- `validator::production_fault`: a walk that has no row to write ends at the first fault.
use native.Mathlib.Omega.{arith}
use Rattle.validation.proofs.Noted.{err_is, found_none, found_one}
use Rattle.validator.proofs.production_fault.Goals as goal

pub returns : goal.returns
returns c = found_none _ _ _ _ (omega arith) c.note_production.ensures _ c.in_ok-note_production.was

pub returns-in_err-note_production : goal.returns-in_err-note_production
returns-in_err-note_production c =
    rw (err_is c.from_residual.result c.in_err-note_production.field-0.0 c.from_residual.ensures.1) (found_one _ _ _ _ (omega arith) c.note_production.ensures _ c.in_err-note_production.was)
