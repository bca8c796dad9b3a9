use Rattle.links.specs.Links.{Linked}
use Rattle.links.proofs.link.Given as goal

abbrev pub invariant-loop-r : goal.invariant-loop-r
invariant-loop-r l = Linked l.t8 l.r l.n l.heads l.nexts
