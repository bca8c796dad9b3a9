-- `sound::param_sound`: each arm is its line of the definition.
use Rattle.sound.proofs.param_sound.Goals as goal

pub returns-in-Some : goal.returns-in-Some
returns-in-Some c = rw (c.in-Some.is, c.is_place-in-Some.ensures, c.is_place.ensures)
