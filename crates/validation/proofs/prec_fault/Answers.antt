-- `validation::prec_fault`: its tests in their order.
use mathlib.Core.Path.{refl}
use borrow.Author.Tests.{not-true, not-false}
use Rattle.validation.proofs.Laws.{prec_at}
use Rattle.validation.proofs.prec_fault.Goals as goal

pub returns-then-not-is_led : goal.returns-then-not-is_led
returns-then-not-is_led c = prec_at _ _ _ _ _ _ _ _ _ _ _ _ c.in-Some.is c.is_led.ensures (not-true _ c.if-not-is_led.true-raw) refl refl

pub returns-then-is_led : goal.returns-then-is_led
returns-then-is_led c =
    prec_at _ _ _ _ _ _ _ _ _ _ _ _ c.in-Some.is c.is_led.ensures (not-false _ c.if-not-is_led.false-raw) c.is_led-in-Some.ensures c.if-is_led.true

pub returns-else-is_led : goal.returns-else-is_led
returns-else-is_led c =
    prec_at _ _ _ _ _ _ _ _ _ _ _ _ c.in-Some.is c.is_led.ensures (not-false _ c.if-not-is_led.false-raw) c.is_led-in-Some.ensures c.if-is_led.false
