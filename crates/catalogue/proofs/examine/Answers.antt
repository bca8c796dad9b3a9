-- `catalogue::examine`: one law for each answer.
use mathlib.Core.Path.{◌∙◌}
use Rattle.scan.proofs.Tuples.{err_is}
use Rattle.catalogue.proofs.Laws.{none_whole, part_whole, right_held, wrong_number, wrong_check}
use Rattle.catalogue.proofs.examine.Goals as goal

pub returns-then-n-eq0 : goal.returns-then-n-eq0
returns-then-n-eq0 c =
    let a = c.args in
    none_whole a.s.now a.rooms.n a.sized a.source c.if-n-eq0.true

pub returns-then-n : goal.returns-then-n
returns-then-n c =
    let a = c.args in
    part_whole a.s.now a.rooms.n a.sized a.source c.if-n.true

pub returns-in-Ok : goal.returns-in-Ok
returns-in-Ok c =
    let a = c.args in
    c.held_in.ensures ∙ right_held a.s.now a.rooms.n a.sized a.source c.if-n-eq0.false c.if-n.false _ c.first_fault.ensures c.in-Ok.is

pub returns-in-Err-WrongNumber : goal.returns-in-Err-WrongNumber
returns-in-Err-WrongNumber c =
    let a = c.args in
    wrong_number a.s.now a.rooms.n a.sized a.source c.if-n-eq0.false c.if-n.false _ c.first_fault.ensures (err_is c.in-Err-WrongNumber.is c.in-Err-WrongNumber.field-0-is)

pub returns-in-Err-WrongCheck : goal.returns-in-Err-WrongCheck
returns-in-Err-WrongCheck c =
    let a = c.args in
    wrong_check a.s.now a.rooms.n a.sized a.source c.if-n-eq0.false c.if-n.false _ c.first_fault.ensures (err_is c.in-Err-WrongCheck.is c.in-Err-WrongCheck.field-0-is)
