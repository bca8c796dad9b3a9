-- `validator::start_rules_fault`: the rules are tested where the start is met.
use Rattle.validation.proofs.Laws.{start_rules_are}
use Rattle.validation.proofs.Foremost.{start_met, start_failed}
use Rattle.validation.proofs.Noted.{err_is}
use Rattle.validator.proofs.start_rules_fault.Goals as goal

pub start_fault-requires : goal.start_fault-requires
start_fault-requires c = rw c.rows_of-rules.ensures c.requires.0.rules

pub fault_led-requires : goal.fault_led-requires
fault_led-requires c =
    rw (c.rows_of-tokens.ensures, c.rows_of-rules.ensures, c.rows_of-precedences.ensures, c.rows_of-n.ensures) (c.requires.0.symbols, c.requires.1)

pub returns : goal.returns
returns c =
    let a = c.args in
    start_met _ _ _ (start_rules_are a.src.now a.c _ _ c.rows_of-tokens.ensures c.rows_of-rules.ensures a.t1.now a.t2.now a.t7.now a.t8.now a.t9.now a.start _ _ c.rows_of-precedences.ensures c.rows_of-n.ensures _ c.start_fault.ensures) c.in_ok-start_fault.was c.fault_led.result c.fault_led.ensures

pub returns-in_err-start_fault : goal.returns-in_err-start_fault
returns-in_err-start_fault c =
    let a = c.args in
    rw (err_is c.from_residual.result c.in_err-start_fault.field-0.0 c.from_residual.ensures.1)
    (start_failed a.src.now a.start a.t7.now _ _ _ c.start_fault.ensures c.rows_of-rules.ensures _ c.in_err-start_fault.was _)
