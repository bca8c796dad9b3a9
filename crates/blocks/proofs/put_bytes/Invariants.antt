use Prim.Native.Nat.{◌+◌}
use mathlib.Core.Path.{◌≡◌}
use lib.ListN.{drop}
use Rattle.blocks.specs.Blocks.{put_content}
use Rattle.blocks.proofs.put_bytes.Given as goal

abbrev pub invariant-loop-j : goal.invariant-loop-j
invariant-loop-j l = put_content l.out (l.i + l.j) (drop l.j l.text) ≡ put_content l.initial.out l.i l.text
