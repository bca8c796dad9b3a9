use Prim.Native.Nat.{suc, ◌≤◌, ◌-◌}
use mathlib.Core.Path.{◌≡◌}
use lib.ListN.{length}
use Rattle.shipper.specs.Ship.{word_turn}
use Rattle.shipper.proofs.Laws.{Sofar}
use Rattle.shipper.proofs.ship_words.Given as goal

abbrev pub invariant-loop-what : goal.invariant-loop-what
invariant-loop-what l =
    (length l.out ≡ length l.initial.out) × (l.at ≤ l.i) × (l.i ≤ length l.src) × Sofar (word_turn l.kind l.what l.src) (suc (length l.src)) l.at l.n l.initial.out (length l.src - l.i) l.i l.m l.out

abbrev pub decreases-loop-what : goal.decreases-loop-what
decreases-loop-what l = length l.src - l.i
