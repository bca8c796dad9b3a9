use mathlib.Core.Path.{◌≡◌}
use mathlib.Core.Bool.{true}
use Rattle.blocks.specs.Blocks.{content_of, zero_bytes}
use Rattle.blocks.proofs.zero_bytes.Given as goal

abbrev pub invariant-loop-j : goal.invariant-loop-j
invariant-loop-j l = zero_bytes (content_of l.s) l.i l.j ≡ true
