use Rattle.closing.specs.Close.{Shut}
use Rattle.pruning.specs.Pruned.{row_stays}
use Rattle.pruner.proofs.close_named.Given as goal

abbrev pub invariant-loop-r : goal.invariant-loop-r
invariant-loop-r l = Shut (row_stays l.src l.c l.t1 l.ws l.w l.k l.initial.t) l.w l.initial.t l.r l.m l.t
