-- `validation::epp_fault`: its tests in their order.
use mathlib.Core.Path.{refl}
use Rattle.validation.proofs.Laws.{epp_is}
use Rattle.validation.proofs.epp_fault.Goals as goal

pub returns-then-is_led : goal.returns-then-is_led
returns-then-is_led c = epp_is _ _ _ _ _ _ _ _ _ _ _ _ _ c.cell-a.ensures c.cell-b.ensures c.is_led.ensures c.if-is_led.true refl refl _ _ refl refl

pub returns-then-is_led-2 : goal.returns-then-is_led-2
returns-then-is_led-2 c =
    epp_is _ _ _ _ _ _ _ _ _ _ _ _ _ c.cell-a.ensures c.cell-b.ensures c.is_led.ensures c.if-is_led.false c.is_led-2.ensures c.if-is_led-2.true _ _ refl refl

pub returns : goal.returns
returns c =
    epp_is _ _ _ _ _ _ _ _ _ _ _ _ _ c.cell-a.ensures c.cell-b.ensures c.is_led.ensures c.if-is_led.false c.is_led-2.ensures c.if-is_led-2.false _ _ c.cell.ensures c.cell-2.ensures
