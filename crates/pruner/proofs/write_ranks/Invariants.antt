use mathlib.Core.Path.{◌≡◌}
use Rattle.closing.specs.Close.{rank, by_bit}
use Rattle.pruner.specs.Moving.{Ranked}
use Rattle.pruner.proofs.write_ranks.Given as goal

abbrev pub invariant-loop-r : goal.invariant-loop-r
invariant-loop-r l = (l.m ≡ rank (by_bit l.ws l.base) l.r) × Ranked (by_bit l.ws l.base) l.r l.ix
