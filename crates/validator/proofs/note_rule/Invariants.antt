use Rattle.std.specs.Prelude.{Ok}
use Prim.Native.Nat.{◌≤◌, ◌<◌, ◌-◌}
use mathlib.Core.Path.{◌≡◌}
use mathlib.Core.Bool.{true}
use lib.Dec.{eqb}
use Rattle.tables.specs.Layout.{rule_row}
use Rattle.productions.specs.Cells.{cell_of}
use Rattle.links.specs.Links.{is_of_rule}
use Rattle.validation.specs.Faults.{upto, of_rule, production_faults}
use Rattle.validation.specs.Walk.{noted}
use Rattle.validation.proofs.Noted.{walked}
use Rattle.validator.proofs.note_rule.Given as goal

abbrev pub invariant-loop-r : goal.invariant-loop-r
invariant-loop-r l =
    (l.r ≤ l.n)
    × (l.r < l.n → is_of_rule l.t8 l.k l.r ≡ true)
    × (walked (Ok l.next) l.t14 ≡ noted (upto l.r (λ i. of_rule (eqb (cell_of l.t8 i rule_row) l.k) (production_faults l.src l.t1 l.tokens l.t2 l.precedences l.t7 l.rules l.t8 l.t9 i))) l.at l.initial.t14)

abbrev pub decreases-loop-r : goal.decreases-loop-r
decreases-loop-r l = l.n - l.r
