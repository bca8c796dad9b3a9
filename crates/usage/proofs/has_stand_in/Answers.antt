-- `usage::has_stand_in`: the row that the slots tell of, if it has the kind.
use Prim.Native.Nat.{ℕ}
use mathlib.Core.Bool.{false, false≢true}
use Rattle.usage.proofs.Guided.{stand_in_told}
use Rattle.usage.proofs.has_stand_in.Goals as goal

pub returns-in-Seated : goal.returns-in-Seated
returns-in-Seated c t =
    stand_in_told _ _ _ _ _ _ _ _ c.cell-a.ensures c.cell-b.ensures (c.seek.ensures (λ (q : ℕ). false) (λ r l y. absurd (false≢true y))) _ _ c.in-Seated.is c.cell.ensures t

pub returns-in-Unseated : goal.returns-in-Unseated
returns-in-Unseated c t = absurd (false≢true t)
