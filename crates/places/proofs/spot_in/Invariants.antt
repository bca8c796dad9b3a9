use Prim.Native.Nat.{◌+◌, ◌-◌, ◌≤◌}
use mathlib.Core.Path.{◌≡◌}
use Rattle.scan.specs.Lines.{lines_to}
use Rattle.places.specs.Places.{line_start}
use Rattle.places.proofs.spot_in.Given as goal

abbrev pub invariant-loop-k : goal.invariant-loop-k
invariant-loop-k l = (l.k ≤ l.to) × (l.line ≡ lines_to l.s l.k + 1) × (l.start ≡ line_start l.s l.k)

abbrev pub decreases-loop-k : goal.decreases-loop-k
decreases-loop-k l = l.to - l.k
