use Prim.Native.Nat.{◌+◌, ◌*◌}
use mathlib.Core.Path.{◌≡◌}
use lib.ListN.{take}
use lib.Seq.{slice}
use Rattle.blocks.specs.Blocks.{bytes_of_all, put_content}
use Rattle.blocks.proofs.put_numbers.Given as goal

abbrev pub invariant-loop-j : goal.invariant-loop-j
invariant-loop-j l =
    put_content l.out (l.i + 4 * l.j) (bytes_of_all (slice l.j l.n l.t)) ≡ put_content l.initial.out l.i (bytes_of_all (take l.n l.t))
