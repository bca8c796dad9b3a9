use Rattle.index.specs.Index.{Taken}
use Rattle.index.proofs.open_within.Given as goal

abbrev pub invariant-loop-q : goal.invariant-loop-q
invariant-loop-q l = Taken l.ix l.r l.p l.q
