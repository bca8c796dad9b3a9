use Prim.Native.Nat.{◌-◌}
use mathlib.Core.Path.{◌≡◌}
use Rattle.catalogue.specs.Catalogue.{first_short}
use Rattle.catalogue.proofs.first_short.Given as goal

abbrev pub invariant-loop-k : goal.invariant-loop-k
invariant-loop-k l = first_short l.c l.p l.rooms.n l.k (13 - l.k) ≡ first_short l.c l.p l.rooms.n 0 13
