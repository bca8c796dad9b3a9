-- `sound::expect_sound`: each arm is its line of the definition.
use mathlib.Core.Path.{sym, ap, ◌∙◌}
use Rattle.sound.specs.Test.{expect_test}
use Rattle.sound.proofs.expect_sound.Goals as goal

pub returns-in-Some : goal.returns-in-Some
returns-in-Some c = c.is_place.ensures ∙ sym (ap (expect_test _) c.in-Some.is)
