use Prim.Native.Nat.{◌≤◌, ◌-◌}
use mathlib.Core.Path.{◌≡◌}
use lib.ListN.{length}
use mathlib.Core.Bool.{false}
use Rattle.spacing.specs.Spacing.{gap, comment, spacing_at, spaces_at}
use Rattle.spacing.proofs.parse_ws.Given as goal

abbrev pub invariant-comment : goal.invariant-comment
invariant-comment l =
    (l.initial.k ≤ l.k) × (l.k ≤ length l.s) × (l.n ≤ l.k) × (spacing_at l.kind l.ends_allowed (comment l.i false) l.s l.k l.n ≡ spaces_at l.kind l.ends_allowed l.s l.from)

abbrev pub decreases-comment : goal.decreases-comment
decreases-comment l = length l.s - l.k

abbrev pub invariant-gap : goal.invariant-gap
invariant-gap l =
    (l.i ≤ length l.s) × (l.n ≤ l.i) × (spacing_at l.kind l.ends_allowed gap l.s l.i l.n ≡ spaces_at l.kind l.ends_allowed l.s l.from)

abbrev pub decreases-gap : goal.decreases-gap
decreases-gap l = length l.s - l.i
