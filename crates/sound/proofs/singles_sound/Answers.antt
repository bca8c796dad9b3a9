-- `sound::singles_sound`: the six tests.
use Rattle.sound.specs.Test.{singles_test}
use Rattle.sound.proofs.singles_sound.Goals as goal

pub returns : goal.returns
unfolding singles_test
returns c =
    rw (c.part_sound-3.ensures, c.part_sound-2.ensures, c.param_sound.ensures, c.expect_sound-2.ensures, c.expect_sound.ensures, c.part_sound.ensures)
