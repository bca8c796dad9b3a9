use mathlib.Core.Path.{◌≡◌}
use Rattle.tables.specs.Layout.{productions}
use Rattle.grammar.specs.declared.Counts.{Counts}
use Rattle.sound.specs.Test.{count_at}
use Rattle.pruner.specs.Asked.{Movable}
use Rattle.pruner.proofs.Symbols.{SymbolsTo}
use Rattle.pruner.proofs.close_symbols.Given as goal

abbrev pub invariant-loop-p : goal.invariant-loop-p
invariant-loop-p l = (c : Counts) → Movable c l.ws l.i1 l.i7 l.t8 l.initial.t9 → l.n ≡ count_at c productions → SymbolsTo c l.ws l.t8 l.initial.t9 l.p l.m l.t9
