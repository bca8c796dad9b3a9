-- `sound::production_sound`: the tests of its cells.
use Rattle.sound.specs.Test.{production_test}
use Rattle.sound.proofs.production_sound.Goals as goal

pub returns : goal.returns
unfolding production_test
returns c =
    rw (c.cell-11.ensures, c.action_sound-action.ensures, c.cell-10.ensures, c.cell-9.ensures, c.cell-8.ensures, c.cell-7.ensures, c.cell-6.ensures, c.given_sound-prec.ensures, c.cell-5.ensures, c.cell-4.ensures, c.cell-3.ensures, c.is_place-place.ensures, c.cell-2.ensures, c.cell.ensures)
