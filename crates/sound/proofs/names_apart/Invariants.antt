use mathlib.Core.Path.{◌≡◌}
use mathlib.Core.Bool.{true}
use Rattle.tables.specs.Below.{below}
use Rattle.index.specs.Index.{fresh_name}
use Rattle.finder.specs.Finder.{Held}
use Rattle.sound.proofs.names_apart.Given as goal

abbrev pub invariant-loop-r : goal.invariant-loop-r
invariant-loop-r l =
    Held l.src l.w 0 l.r l.t l.fx × (below l.r (fresh_name l.src l.w 0 l.t) ≡ true)
