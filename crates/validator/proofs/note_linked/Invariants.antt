use Rattle.std.specs.Prelude.{Ok}
use mathlib.Core.Path.{◌≡◌}
use Rattle.validation.specs.Faults.{upto, rule_faults}
use Rattle.validation.specs.Walk.{noted}
use Rattle.validation.proofs.Noted.{walked}
use Rattle.validator.proofs.note_linked.Given as goal

abbrev pub invariant-loop-k : goal.invariant-loop-k
invariant-loop-k l = walked (Ok l.next) l.t14 ≡ noted (upto l.k (rule_faults l.src l.t1 l.tokens l.t2 l.precedences l.t7 l.rules l.t8 l.t9 l.n)) l.at l.initial.t14
