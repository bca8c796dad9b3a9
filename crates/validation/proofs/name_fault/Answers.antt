-- `validation::name_fault`: by its kind, then by its name.
use Rattle.validation.proofs.Laws.{name_rule, name_token}
use Rattle.validation.proofs.name_fault.Goals as goal

pub returns-then-is_led : goal.returns-then-is_led
returns-then-is_led c = name_rule _ _ _ _ _ _ _ _ _ _ c.if-kind-eq1.true c.is_led.ensures c.if-is_led.true

pub returns-then-kind-eq1 : goal.returns-then-kind-eq1
returns-then-kind-eq1 c = name_rule _ _ _ _ _ _ _ _ _ _ c.if-kind-eq1.true c.is_led.ensures c.if-is_led.false

pub returns-then-is_led-2 : goal.returns-then-is_led-2
returns-then-is_led-2 c = name_token _ _ _ _ _ _ _ _ _ _ c.if-kind-eq1.false c.is_led-2.ensures c.if-is_led-2.true

pub returns : goal.returns
returns c = name_token _ _ _ _ _ _ _ _ _ _ c.if-kind-eq1.false c.is_led-2.ensures c.if-is_led-2.false
