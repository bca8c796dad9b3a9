-- `catalogue::is_sound`: the ten tables' test, and behind it the three tables'.
use Rattle.catalogue.proofs.Laws.{first_no, first_yes}
use Rattle.catalogue.proofs.is_sound.Goals as goal

pub returns-then-not-sound : goal.returns-then-not-sound
returns-then-not-sound c = first_no _ _ _ c.sound.ensures c.if-not-sound.true-raw

pub returns : goal.returns
returns c = first_yes _ _ _ c.sound.ensures c.if-not-sound.false-raw _ c.posix_sound.ensures
