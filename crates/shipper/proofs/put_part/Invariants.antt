use mathlib.Core.Path.{◌≡◌}
use lib.Seq.{slice}
use lib.ListN.{length}
use Rattle.shipper.specs.Emit.{emit}
use Rattle.shipper.proofs.put_part.Given as goal

abbrev pub invariant-loop-i : goal.invariant-loop-i
invariant-loop-i l =
    (length l.out ≡ length l.initial.out) × (emit (slice l.i l.to l.s) l.m l.out ≡ emit (slice l.from l.to l.s) l.n l.initial.out)
