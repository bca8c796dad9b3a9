-- `validator::find_led`: the names are tested where start and rules have no fault.
use Rattle.validation.proofs.Foremost.{faults_behind, faults_before}
use Rattle.validator.proofs.find_led.Goals as goal

pub returns-in-Ok : goal.returns-in-Ok
returns-in-Ok c =
    let a = c.args in
    faults_behind a.src.now a.c a.g a.t1.now a.t2.now a.t4.now a.t5.now a.t6.now a.t7.now a.t8.now a.t9.now _ c.start_rules_fault.ensures c.in-Ok.is _ c.names_fault.ensures

pub returns-in-Err : goal.returns-in-Err
returns-in-Err c =
    let a = c.args in
    faults_before a.src.now a.c a.g a.t1.now a.t2.now a.t4.now a.t5.now a.t6.now a.t7.now a.t8.now a.t9.now _ c.start_rules_fault.ensures _ c.in-Err.is
