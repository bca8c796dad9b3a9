-- `quiltrudder::reading_after`: the counts are stored over those that were.
use mathlib.Core.Path.{sym, ap}
use Rattle.quiltrudder.specs.Face.{reading_after}
use Rattle.quiltrudder.proofs.reading_after.Goals as goal

pub returns-in-Ok : goal.returns-in-Ok
returns-in-Ok c = sym (ap (λ k. reading_after k c.args.d c.args.m.now) c.in-Ok.is)

pub returns-in-Err : goal.returns-in-Err
returns-in-Err c = sym (ap (λ k. reading_after k c.args.d c.args.m.now) c.in-Err.is)
