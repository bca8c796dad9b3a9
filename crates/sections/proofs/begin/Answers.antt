-- `sections::begin`.
use mathlib.Core.Path.{ap}
use Rattle.grammar.specs.State.{fresh, with_singles}
use Rattle.sections.proofs.begin.Goals as goal

pub returns : goal.returns
returns c = ap (with_singles (fresh _)) c.no_singles.ensures
