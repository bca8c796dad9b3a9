-- `sound::action_sound`: the two places' tests, joined with those of the numbers.
use Rattle.sound.specs.Test.{action_test}
use Rattle.sound.proofs.action_sound.Goals as goal

pub returns : goal.returns
unfolding action_test
returns c = rw (c.is_place-2.ensures, c.is_place.ensures)
