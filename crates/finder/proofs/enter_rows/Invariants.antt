use Rattle.finder.specs.Finder.{Led, Grown}
use Rattle.finder.proofs.enter_rows.Given as goal

abbrev pub invariant-loop-r : goal.invariant-loop-r
invariant-loop-r l = Grown l.initial.ix l.ix × Led l.src l.w l.k l.r l.t l.ix
