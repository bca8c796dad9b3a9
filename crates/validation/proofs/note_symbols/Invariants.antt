use Rattle.std.specs.Prelude.{Ok}
use Prim.Native.Nat.{◌≤◌, ◌-◌, ◌+◌}
use mathlib.Core.Path.{◌≡◌}
use Rattle.validation.specs.Faults.{upto}
use Rattle.validation.specs.Walk.{symbol_faults, noted}
use Rattle.validation.proofs.Noted.{walked}
use Rattle.validation.proofs.note_symbols.Given as goal

abbrev pub invariant-loop-s : goal.invariant-loop-s
invariant-loop-s l =
    (l.s - l.from ≤ l.to - l.from) × (walked (Ok l.next) l.t14 ≡ noted (upto (l.s - l.from) (λ i. symbol_faults l.t9 (l.from + i))) l.at l.initial.t14)
