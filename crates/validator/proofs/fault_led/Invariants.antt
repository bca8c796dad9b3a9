use Rattle.tables.specs.Layout.{rule_row}
use Rattle.productions.specs.Cells.{cell_of}
use Rattle.validation.specs.Faults.{production_faults}
use Rattle.validation.proofs.Foremost.{Foremost}
use Rattle.validator.proofs.fault_led.Given as goal

abbrev pub invariant-loop-r : goal.invariant-loop-r
invariant-loop-r l = Foremost (production_faults l.src l.t1 l.tokens l.t2 l.precedences l.t7 l.rules l.t8 l.t9) (λ p. cell_of l.t8 p rule_row) l.rules l.r l.owner l.best
