use Prim.Native.Nat.{suc, ◌≤◌, ◌-◌}
use mathlib.Core.Path.{◌≡◌}
use lib.ListN.{length}
use Rattle.shipper.specs.Ship.{decls_turn}
use Rattle.shipper.proofs.Laws.{Sofar}
use Rattle.shipper.proofs.ship_declarations.Given as goal

abbrev pub invariant-loop-i : goal.invariant-loop-i
invariant-loop-i l =
    (length l.out ≡ length l.initial.out) × (l.at ≤ l.i) × (l.i ≤ length l.src) × Sofar (decls_turn l.kind l.src) (suc (length l.src)) l.at l.n l.initial.out (length l.src - l.i) l.i l.m l.out

abbrev pub decreases-loop-i : goal.decreases-loop-i
decreases-loop-i l = length l.src - l.i
