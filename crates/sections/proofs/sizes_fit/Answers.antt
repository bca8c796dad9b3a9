-- `sections::sizes_fit`.
use native.Mathlib.Omega.{arith}
use Rattle.sections.proofs.Laws.{sizes_are}
use Rattle.sections.proofs.sizes_fit.Goals as goal

pub size_sound-requires : goal.size_sound-requires
size_sound-requires c = omega arith

pub size_sound-requires-2 : goal.size_sound-requires-2
size_sound-requires-2 c = omega arith

pub returns : goal.returns
returns c = sizes_are _ _ _ _ _ _ c.size_sound.ensures c.size_sound-2.ensures
