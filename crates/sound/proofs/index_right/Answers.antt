-- `sound::index_right`: the size, then what it holds.
use Rattle.sound.proofs.Indexes.{wrong_size, right_size}
use Rattle.sound.proofs.index_right.Goals as goal

pub size_sound-requires : goal.size_sound-requires
size_sound-requires c = c.requires

pub returns-then-not-size_sound : goal.returns-then-not-size_sound
returns-then-not-size_sound c = wrong_size _ _ _ _ _ _ c.size_sound.ensures c.if-not-size_sound.true-raw

pub index_sound-requires : goal.index_sound-requires
index_sound-requires c = tt

pub returns : goal.returns
returns c = right_size _ _ _ _ _ _ c.size_sound.ensures c.if-not-size_sound.false-raw _ c.index_sound.ensures
