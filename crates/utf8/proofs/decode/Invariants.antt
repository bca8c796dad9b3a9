use Prim.Native.Nat.{◌≤◌, ◌<◌}
use mathlib.Core.Path.{◌≡◌}
use lib.ListN.{length}
use Rattle.utf8.specs.Utf8.{cap, follow_at, decode_at}
use Rattle.utf8.proofs.decode.Given as goal

abbrev pub invariant-loop-n : goal.invariant-loop-n
invariant-loop-n l =
    (l.j ≤ length l.s) × (l.v < cap l.n) × (128 ≤ l.lo) × (l.hi ≤ 191) × (follow_at l.n l.lo l.hi l.v l.s l.j ≡ decode_at l.s l.i)

abbrev pub decreases-loop-n : goal.decreases-loop-n
decreases-loop-n l = l.n
