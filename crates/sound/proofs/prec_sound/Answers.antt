-- `sound::prec_sound`: the tests of its cells.
use Rattle.sound.specs.Test.{prec_test}
use Rattle.sound.proofs.prec_sound.Goals as goal

pub returns : goal.returns
unfolding prec_test
returns c = rw (c.is_place.ensures, c.cell-2.ensures, c.cell.ensures, c.cell-a.ensures)
