-- `usage::guide`: the rows of the kind are led to, and stay so where those of table 4 are entered too.
use native.Mathlib.Omega.{arith}
use Rattle.usage.proofs.Guided.{stand_in_grown}
use Rattle.usage.proofs.guide.Goals as goal

pub returns-then-kind-eq2 : goal.returns-then-kind-eq2
returns-then-kind-eq2 c =
    let x = c.guide_expected.ensures.led in
    record {
      rows_expected = λ r l e. stand_in_grown _ _ _ _ _ _ _ _ (omega arith) c.guide_implicit.ensures.grown ((rw c.rows_of.ensures at x) r l e);
      rows_implicit = λ e. rw c.rows_of-then-kind-eq2.ensures at c.guide_implicit.ensures.led;
    }

pub returns : goal.returns
returns c =
    record {
      rows_expected = rw c.rows_of.ensures at c.guide_expected.ensures.led;
      rows_implicit = λ e. absurd (c.if-kind-eq2.false e);
    }
