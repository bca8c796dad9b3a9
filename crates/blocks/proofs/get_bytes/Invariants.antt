use Prim.Native.Nat.{◌+◌}
use mathlib.Core.Path.{◌≡◌}
use mathlib.Core.List.{◌++◌}
use lib.ListN.{drop}
use lib.Seq.{slice}
use Rattle.blocks.specs.Blocks.{content_of}
use Rattle.blocks.proofs.get_bytes.Given as goal

abbrev pub invariant-loop-j : goal.invariant-loop-j
invariant-loop-j l = l.text ≡ slice l.i (l.i + l.j) (content_of l.s) ++ drop l.j l.initial.text
