-- `walks::advance`: the tests, and then the next row.
use mathlib.Core.Path.{refl}
use Rattle.usage.proofs.Picked.{says_yes, says_no}
use Rattle.walks.specs.Walk.{fitting, unfitting}
use Rattle.walks.proofs.advance.Goals as goal

pub returns-then-is_fitting : goal.returns-then-is_fitting
returns-then-is_fitting c = fitting (says_yes _ _ c.if-is_fitting.true c.is_fitting.ensures) c.pass.ensures

pub returns : goal.returns
returns c = unfitting (says_no _ _ c.if-is_fitting.false c.is_fitting.ensures) refl refl
