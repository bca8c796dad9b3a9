-- `validation::note`: a fault takes three cells, where there are three.
use Prim.Native.Nat.{◌+◌, ◌*◌, ◌≤◌}
use native.Mathlib.Omega.{arith}
use lib.ListN.{length, length-set}
use Rattle.tables.specs.Layout.{fault_width}
use Rattle.validation.proofs.Noted.{note_met, note_full, note_row}
use Rattle.validation.proofs.note.Goals as goal

pub returns-then-t14-w : goal.returns-then-t14-w
returns-then-t14-w c = note_full _ _ _ _ c.in-Err.is c.if-t14-w.true

pub overflow_mul-to : goal.overflow_mul-to
overflow_mul-to c = omega (arith, (let it : c.args.at * fault_width + fault_width ≤ length c.args.t14.now = omega (arith, c.if-t14-w.false) in it))

pub bounds-t14-to : goal.bounds-t14-to
bounds-t14-to c = omega (arith, (let it : c.args.at * fault_width + fault_width ≤ length c.args.t14.now = omega (arith, c.if-t14-w.false) in it))

pub overflow_add-t14 : goal.overflow_add-t14
overflow_add-t14 c = omega (arith, (let it : c.args.at * fault_width + fault_width ≤ length c.args.t14.now = omega (arith, c.if-t14-w.false) in it))

pub bounds-t14-to-in-Err : goal.bounds-t14-to-in-Err
bounds-t14-to-in-Err c =
    simp length-set (omega (arith, (let it : c.args.at * fault_width + fault_width ≤ length c.args.t14.now = omega (arith, c.if-t14-w.false) in it)))

pub overflow_add-t14-in-Err : goal.overflow_add-t14-in-Err
overflow_add-t14-in-Err c = omega (arith, (let it : c.args.at * fault_width + fault_width ≤ length c.args.t14.now = omega (arith, c.if-t14-w.false) in it))

pub bounds-t14-to-in-Err-2 : goal.bounds-t14-to-in-Err-2
bounds-t14-to-in-Err-2 c =
    simp length-set (omega (arith, (let it : c.args.at * fault_width + fault_width ≤ length c.args.t14.now = omega (arith, c.if-t14-w.false) in it)))

pub overflow_add-result : goal.overflow_add-result
overflow_add-result c = omega (arith, (let it : c.args.at * fault_width + fault_width ≤ length c.args.t14.now = omega (arith, c.if-t14-w.false) in it))

pub returns-in-Ok : goal.returns-in-Ok
returns-in-Ok c = note_met _ _ _ c.in-Ok.is

pub returns-else-t14-w : goal.returns-else-t14-w
returns-else-t14-w c = note_row _ _ _ _ c.in-Err.is _ c.fault_row-row.ensures c.if-t14-w.false
