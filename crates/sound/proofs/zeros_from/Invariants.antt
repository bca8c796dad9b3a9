use mathlib.Core.Path.{◌≡◌}
use Rattle.sound.specs.Test.{zeros_from}
use Rattle.sound.proofs.zeros_from.Given as goal

abbrev pub invariant-loop-i : goal.invariant-loop-i
invariant-loop-i l = zeros_from l.t l.i ≡ zeros_from l.t l.from
