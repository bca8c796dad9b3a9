-- `sound::tag_sound`: the tests of its cells.
use Rattle.sound.specs.Test.{tag_test}
use Rattle.sound.proofs.tag_sound.Goals as goal

pub returns : goal.returns
unfolding tag_test
returns c = rw (c.is_place-2.ensures, c.cell-4.ensures, c.cell-3.ensures, c.is_place.ensures, c.cell-2.ensures, c.cell.ensures)
