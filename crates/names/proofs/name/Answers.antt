-- `names::name`.
use borrow.Author.Tests.{not-true, not-false}
use Rattle.names.proofs.Laws.{name_unsound, name_is}
use Rattle.names.proofs.name.Goals as goal

pub returns-then-not-sound : goal.returns-then-not-sound
returns-then-not-sound c = name_unsound _ _ _ _ _ _ _ _ c.sound.ensures _ (not-true _ c.if-not-sound.true-raw) c.part.ensures

pub returns : goal.returns
returns c = name_is _ _ _ _ _ _ _ _ c.sound.ensures _ (not-false _ c.if-not-sound.false-raw) _ c.name_place-p.ensures c.part-2.ensures
