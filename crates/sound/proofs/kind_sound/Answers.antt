-- `sound::kind_sound`: the tests of its cells.
use Rattle.sound.specs.Test.{kind_test}
use Rattle.sound.proofs.kind_sound.Goals as goal

pub returns : goal.returns
unfolding kind_test
returns c = rw (c.is_place.ensures, c.cell-2.ensures, c.cell.ensures, c.cell-k.ensures)
