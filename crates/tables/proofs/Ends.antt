-- Ranges that follow one another end inside the whole. Assumes nothing.
use Prim.Native.Nat.{ℕ, zero, suc, ◌≤◌, ◌<◌}
use mathlib.Core.List.{List}
use native.Mathlib.Omega.{arith}
use native.Mathlib.Decide.{ℕ_discrete}
use lib.ListN.{get_or}
use Rattle.tables.specs.Table.{cell}
use Rattle.tables.specs.Rows.{row_at, end_before, Chained}
use Rattle.tables.proofs.Rows.{row_cell}

module _ (w from to n : ℕ) (t : List ℕ) (e : ℕ) (c : Chained w from to n t e) where
  -- no later range ends before an earlier one
  rises : (k r : ℕ) → r < k → k ≤ n → get_or (row_at w t r) to 0 ≤ end_before w to t k
  unfolding end_before
  rises zero r h l = absurd (omega arith)
  rises (suc k) r h l =
      elim (ℕ_discrete r k) [
        | yes x ↦ rw x (omega arith)
        | no x ↦ omega (arith, rises k r (omega arith) (omega arith), c.begins k (omega arith), c.onward k (omega arith))
      ]

  -- every range ends where the last one does, or before
  pub chained_inside : (r : ℕ) → r < n → to < w → cell w t r to ≤ e
  chained_inside r h l = omega (arith, rises n r h (omega arith), c.last, row_cell w t r to l)
