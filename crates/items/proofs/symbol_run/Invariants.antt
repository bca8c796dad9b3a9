use Prim.Native.Nat.{◌≤◌, ◌-◌}
use mathlib.Core.Path.{◌≡◌}
use lib.ListN.{length}
use Rattle.finder.specs.Finder.{Held}
use Rattle.items.specs.Quick.{Ran}
use Rattle.items.proofs.symbol_run.Given as goal

abbrev pub invariant-loop-j : goal.invariant-loop-j
invariant-loop-j l =
    (length l.t1 ≡ length l.initial.t1) × (length l.t9 ≡ length l.initial.t9) × (length l.i1 ≡ length l.initial.i1) × (l.at ≤ l.run.at) × (l.run.at ≤ length l.src) × Held l.src 3 0 l.run.tokens l.t1 l.i1 ×
    Ran l.kind l.src l.at l.m l.n l.to l.initial.t1 l.initial.t9 l.run.at l.run.tokens l.run.symbols l.run.to l.t1 l.t9

abbrev pub decreases-loop-j : goal.decreases-loop-j
decreases-loop-j l = length l.src - l.run.at
