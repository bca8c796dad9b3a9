-- `sound::posix_sound`: the tests of the three tables.
use Rattle.sound.proofs.Laws.{posix_first, posix_second, posix_third}
use Rattle.sound.proofs.posix_sound.Goals as goal

pub returns-then-not-table_sound : goal.returns-then-not-table_sound
returns-then-not-table_sound c = posix_first _ _ _ _ _ _ c.table_sound.ensures c.if-not-table_sound.true-raw

pub returns-then-not-table_sound-2 : goal.returns-then-not-table_sound-2
returns-then-not-table_sound-2 c =
    posix_second _ _ _ _ _ _ c.table_sound.ensures c.if-not-table_sound.false-raw _ c.table_sound-2.ensures c.if-not-table_sound-2.true-raw

pub returns : goal.returns
returns c =
    posix_third _ _ _ _ _ _ c.table_sound.ensures c.if-not-table_sound.false-raw _ c.table_sound-2.ensures c.if-not-table_sound-2.false-raw _ c.table_sound-3.ensures
