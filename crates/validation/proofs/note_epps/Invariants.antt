use Rattle.std.specs.Prelude.{Ok}
use mathlib.Core.Path.{◌≡◌}
use Rattle.validation.specs.Faults.{upto, epp_faults}
use Rattle.validation.specs.Walk.{noted}
use Rattle.validation.proofs.Noted.{walked}
use Rattle.validation.proofs.note_epps.Given as goal

abbrev pub invariant-loop-r : goal.invariant-loop-r
invariant-loop-r l =
    walked (Ok l.next) l.t14 ≡ noted (upto l.r (epp_faults l.src l.t1 l.tokens l.t4 l.implicit l.t5)) l.at l.initial.t14
