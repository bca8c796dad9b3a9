use Rattle.finder.specs.Finder.{Grown}
use Rattle.usage.specs.Report.{ExpectedLed}
use Rattle.usage.proofs.guide_expected.Given as goal

abbrev pub invariant-loop-r : goal.invariant-loop-r
invariant-loop-r l = Grown l.initial.fx l.fx × ExpectedLed l.src l.t6 l.r l.kind l.fx
