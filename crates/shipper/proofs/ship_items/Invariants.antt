use Prim.Native.Nat.{suc, ◌≤◌, ◌-◌}
use mathlib.Core.Path.{◌≡◌}
use lib.ListN.{length}
use Rattle.shipper.specs.Ship.{items_turn}
use Rattle.shipper.proofs.Laws.{Sofar}
use Rattle.shipper.proofs.ship_items.Given as goal

abbrev pub invariant-loop-r : goal.invariant-loop-r
invariant-loop-r l =
    (length l.out ≡ length l.initial.out) × (l.at ≤ l.i) × (l.i ≤ length l.src) × Sofar (items_turn l.kind l.src) (suc (length l.src)) l.at l.n l.initial.out (length l.src - l.i) l.i l.m l.out

abbrev pub decreases-loop-r : goal.decreases-loop-r
decreases-loop-r l = length l.src - l.i
