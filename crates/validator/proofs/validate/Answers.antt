-- `validator::validate`: soundness first, then the first fault.
use mathlib.Core.Path.{◌∙◌}
use Rattle.validation.proofs.Laws.{tested_walkable, unsound, sound}
use Rattle.validator.proofs.validate.Goals as goal

pub returns-then-not-sound : goal.returns-then-not-sound
returns-then-not-sound c = unsound _ _ _ _ _ _ c.sound.ensures c.if-not-sound.true-raw

pub find_fault-requires : goal.find_fault-requires
find_fault-requires c = tested_walkable _ _ _ _ _ _ c.sound.ensures c.if-not-sound.false-raw

pub returns : goal.returns
returns c = c.find_fault.ensures ∙ sound _ _ _ _ _ _ c.sound.ensures c.if-not-sound.false-raw
