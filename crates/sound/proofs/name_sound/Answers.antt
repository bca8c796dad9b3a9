-- `sound::name_sound`: the tests of its cells.
use Rattle.sound.specs.Test.{name_test}
use Rattle.sound.proofs.name_sound.Goals as goal

pub returns : goal.returns
unfolding name_test
returns c = rw (c.is_place.ensures, c.cell-2.ensures, c.cell.ensures)
