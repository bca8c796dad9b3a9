-- `sound::rule_sound`: the tests of its cells.
use Rattle.sound.specs.Test.{rule_test}
use Rattle.sound.proofs.rule_sound.Goals as goal

pub returns : goal.returns
unfolding rule_test
returns c =
    rw (c.given_sound.ensures, c.cell-5.ensures, c.cell-4.ensures, c.cell-3.ensures, c.is_place.ensures, c.cell-2.ensures, c.cell.ensures)
