use mathlib.Core.Path.{◌≡◌}
use Rattle.pruner.specs.Moving.{moved_symbols}
use Rattle.pruner.proofs.move_symbols.Given as goal

abbrev pub invariant-loop-k : goal.invariant-loop-k
invariant-loop-k l = l.t9 ≡ moved_symbols l.i1 l.i7 l.from l.to l.k l.initial.t9
