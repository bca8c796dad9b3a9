use Rattle.finder.specs.Finder.{Grown}
use Rattle.usage.specs.Report.{ImplicitLed}
use Rattle.usage.proofs.guide_implicit.Given as goal

abbrev pub invariant-loop-r : goal.invariant-loop-r
invariant-loop-r l = Grown l.initial.fx l.fx × ImplicitLed l.src l.t4 l.r l.fx
