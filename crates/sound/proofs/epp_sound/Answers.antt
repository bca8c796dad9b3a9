-- `sound::epp_sound`: the tests of its cells.
use Rattle.sound.specs.Test.{epp_test}
use Rattle.sound.proofs.epp_sound.Goals as goal

pub returns : goal.returns
unfolding epp_test
returns c =
    rw (c.is_place-3.ensures, c.cell-6.ensures, c.cell-5.ensures, c.is_place-2.ensures, c.cell-4.ensures, c.cell-3.ensures, c.is_place.ensures, c.cell-2.ensures, c.cell.ensures)
