use Prim.Native.Nat.{◌+◌, ◌-◌, ◌<◌}
use mathlib.Core.Path.{◌≡◌}
use lib.ListN.{length}
use Rattle.tables.specs.Table.{cell}
use Rattle.finder.specs.Finder.{number_of}
use Rattle.finder.proofs.Laws.{Behind}
use Rattle.finder.proofs.enter.Given as goal

abbrev pub invariant-loop : goal.invariant-loop
invariant-loop l =
    (l.p < length l.ix) × (l.ix ≡ l.initial.ix) × Behind l.ix l.v (number_of l.src (cell l.w l.t l.r l.k) (cell l.w l.t l.r (l.k + 1))) (l.m - l.counter) l.p
