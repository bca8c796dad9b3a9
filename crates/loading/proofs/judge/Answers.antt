-- `loading::judge`: what validation says, by its three answers.
use Rattle.std.specs.Prelude.{Result, Ok}
use mathlib.Core.Path.{sym, ap, ◌∙◌}
use Rattle.scan.proofs.Tuples.{err_is}
use Rattle.validation.specs.declared.ValidityError.{ValidityError}
use Rattle.loading.specs.Load.{judged}
use Rattle.loading.proofs.judge.Goals as goal

pub returns-in-Ok : goal.returns-in-Ok
returns-in-Ok c = ap (λ (v : Result (Unit {0}) ValidityError). judged (Ok c.args.end) v) (sym c.in-Ok.is ∙ c.find_fault.ensures)

pub returns-in-Err-UnsoundTables : goal.returns-in-Err-UnsoundTables
returns-in-Err-UnsoundTables c = ap (λ (v : Result (Unit {0}) ValidityError). judged (Ok c.args.end) v) (sym (err_is c.in-Err-UnsoundTables.is c.in-Err-UnsoundTables.field-0-is) ∙ c.find_fault.ensures)

pub returns-in-Err-Invalid : goal.returns-in-Err-Invalid
returns-in-Err-Invalid c = ap (λ (v : Result (Unit {0}) ValidityError). judged (Ok c.args.end) v) (sym (err_is c.in-Err-Invalid.is c.in-Err-Invalid.field-0-is) ∙ c.find_fault.ensures)
