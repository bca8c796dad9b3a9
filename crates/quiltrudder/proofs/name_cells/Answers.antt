-- `quiltrudder::name_cells`: a name of sound tables lies in a short source, so its place is in 32 bits.
use native.Mathlib.Omega.{arith}
use borrow.Author.Tests.{not-true, not-false}
use Rattle.quiltrudder.proofs.Answers.{place_none, place_is, place_fits}
use Rattle.quiltrudder.proofs.name_cells.Goals as goal

pub returns-then-not-sound : goal.returns-then-not-sound
returns-then-not-sound c = place_none _ _ _ _ _ _ _ _ c.sound.ensures (not-true _ c.if-not-sound.true-raw)

pub overflow_cast-from : goal.overflow_cast-from
overflow_cast-from c = let h = place_fits _ _ _ _ _ _ _ _ c.sound.ensures (not-false _ c.if-not-sound.false-raw) _ c.name_place-p.ensures in omega arith

pub overflow_cast-result : goal.overflow_cast-result
overflow_cast-result c = let h = place_fits _ _ _ _ _ _ _ _ c.sound.ensures (not-false _ c.if-not-sound.false-raw) _ c.name_place-p.ensures in omega arith

pub returns : goal.returns
returns c = place_is _ _ _ _ _ _ _ _ c.sound.ensures (not-false _ c.if-not-sound.false-raw) _ c.name_place-p.ensures _ c.locate-s.ensures
