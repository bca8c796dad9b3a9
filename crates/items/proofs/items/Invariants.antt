use Prim.Native.Nat.{suc, ◌-◌}
use mathlib.Core.Path.{◌≡◌}
use lib.ListN.{length}
use Rattle.items.specs.Quick.{going}
use Rattle.items.proofs.Runs.{Stands}
use Rattle.items.proofs.items.Given as goal

abbrev pub invariant-loop-draft : goal.invariant-loop-draft
invariant-loop-draft l =
    (length l.t1 ≡ length l.initial.t1) × (length l.t8 ≡ length l.initial.t8) × (length l.t9 ≡ length l.initial.t9) × (length l.i1 ≡ length l.initial.i1) × Stands l.src (going l.initial.st l.initial.draft l.initial.t1 l.initial.t8 l.initial.t9) (suc (length l.src)) l.initial.st.at l.st l.draft l.t1 l.t8 l.t9 l.i1

abbrev pub decreases-loop-draft : goal.decreases-loop-draft
decreases-loop-draft l = length l.src - l.st.at
