use Rattle.pruner.proofs.Productions.{ProductionsTo}
use Rattle.pruner.proofs.close_productions.Given as goal

abbrev pub invariant-loop-p : goal.invariant-loop-p
invariant-loop-p l = ProductionsTo l.ws l.initial.t8 l.p l.m l.e l.t8
