use Prim.Native.Nat.{◌*◌, ◌≤◌}
use mathlib.Core.Path.{◌≡◌}
use Rattle.catalogue.specs.Catalogue.{cells_before}
use Rattle.catalogue.proofs.cells_before.Given as goal

abbrev pub invariant-loop-i : goal.invariant-loop-i
invariant-loop-i l = (l.n ≤ l.i * (13 * 4294967295)) × (l.n ≡ cells_before l.c l.p l.i)
