use mathlib.Core.Path.{◌≡◌}
use mathlib.Core.Bool.{true}
use Rattle.tables.specs.Below.{below}
use Rattle.sound.specs.Test.{before, range_test}
use Rattle.sound.proofs.ranges_sound.Given as goal

abbrev pub invariant-loop-r : goal.invariant-loop-r
invariant-loop-r l = (below l.r (range_test l.t) ≡ true) × (l.end ≡ before l.t l.r)
