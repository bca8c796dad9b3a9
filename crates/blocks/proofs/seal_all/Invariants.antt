use mathlib.Core.Path.{◌≡◌}
use Rattle.blocks.specs.Blocks.{seal_all}
use Rattle.blocks.proofs.seal_all.Given as goal

abbrev pub invariant-loop-k : goal.invariant-loop-k
invariant-loop-k l = l.out ≡ seal_all l.k l.initial.out
