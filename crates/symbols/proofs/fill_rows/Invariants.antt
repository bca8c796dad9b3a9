use mathlib.Core.Path.{◌≡◌}
use Rattle.symbols.specs.Symbols.{lexicon, filled_rows}
use Rattle.symbols.proofs.fill_rows.Given as goal

abbrev pub invariant-loop-s : goal.invariant-loop-s
invariant-loop-s l = l.t9 ≡ filled_rows (lexicon l.src l.t1 l.n l.t7 l.m) l.initial.t9 l.s
