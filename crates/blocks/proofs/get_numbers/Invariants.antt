use mathlib.Core.Path.{◌≡◌}
use mathlib.Core.List.{◌++◌}
use lib.ListN.{drop}
use Rattle.blocks.specs.Blocks.{words_in, content_of}
use Rattle.blocks.proofs.get_numbers.Given as goal

abbrev pub invariant-loop-j : goal.invariant-loop-j
invariant-loop-j l = l.t ≡ words_in (content_of l.s) l.i l.j ++ drop l.j l.initial.t
