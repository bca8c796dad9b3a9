use Rattle.std.specs.Prelude.{Ok}
use Prim.Native.Nat.{◌-◌, ◌+◌}
use mathlib.Core.Path.{◌≡◌}
use Rattle.tables.specs.Layout.{unused, width}
use Rattle.validation.specs.Faults.{upto, kind_faults}
use Rattle.validation.specs.Walk.{noted}
use Rattle.validation.proofs.Noted.{walked}
use Rattle.validation.proofs.note_unused.Given as goal

abbrev pub invariant-loop-r : goal.invariant-loop-r
invariant-loop-r l =
    walked (Ok l.next) l.t14 ≡ noted (upto (l.r - 0) (λ i. kind_faults l.src (width unused) l.t6 l.t1 l.tokens l.t7 l.rules (0 + i))) l.at l.initial.t14
