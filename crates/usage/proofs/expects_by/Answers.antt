-- `usage::expects_by`: a row that is met tells, or else the search; none is met where none of the kind has the name.
use Prim.Native.Nat.{ℕ}
use mathlib.Core.Bool.{false, false≢true}
use Rattle.usage.proofs.Picked.{says_yes}
use Rattle.usage.proofs.Guided.{expected_met, expected_none}
use Rattle.usage.proofs.expects_by.Goals as goal

pub returns-then-expects : goal.returns-then-expects
returns-then-expects c =
    let m = c.meet.ensures (λ (q : ℕ). false) (λ r l y. absurd (false≢true y)) in
    expected_met _ _ _ _ _ _ _ _ m c.in-Some.is (says_yes _ _ c.if-expects.true c.expects.ensures)

pub returns-in-None : goal.returns-in-None
returns-in-None c = expected_none _ _ _ _ _ _ _ _ c.meet.ensures c.requires c.in-None.is
