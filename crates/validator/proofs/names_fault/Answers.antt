-- `validator::names_fault`: a walk that has no row to write ends at the first fault.
use native.Mathlib.Omega.{arith}
use Rattle.validation.proofs.Noted.{found_none, found_one}
use Rattle.validator.proofs.names_fault.Goals as goal

pub returns-in-Ok : goal.returns-in-Ok
returns-in-Ok c = found_none _ _ _ _ (omega arith) c.note_named.ensures _ c.in-Ok.is

pub returns-in-Err : goal.returns-in-Err
returns-in-Err c = found_one _ _ _ _ (omega arith) c.note_named.ensures _ c.in-Err.is
