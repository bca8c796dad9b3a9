-- `sound::token_sound`: the tests of its cells.
use Rattle.sound.specs.Test.{token_test}
use Rattle.sound.proofs.token_sound.Goals as goal

pub returns : goal.returns
unfolding token_test
returns c = rw (c.cell-3.ensures, c.is_place.ensures, c.cell-2.ensures, c.cell.ensures)
