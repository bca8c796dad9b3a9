-- `sound::given_sound`: the place's test, joined with those of the numbers.
use Rattle.sound.specs.Test.{given_test}
use Rattle.sound.proofs.given_sound.Goals as goal

pub returns : goal.returns
unfolding given_test
returns c = rw c.is_place.ensures
