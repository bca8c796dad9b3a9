-- `index::size_sound`.
use Rattle.index.proofs.Laws.{size_is}
use Rattle.index.proofs.size_sound.Goals as goal

pub returns : goal.returns
returns c = size_is _ _ _ _ _ c.is_power.ensures c.room_for.ensures
