-- `singles::expect_from`.
use Rattle.singles.proofs.Laws.{expect_absent, expect_given_lem}
use Rattle.singles.proofs.expect_from.Goals as goal

pub returns-then-f-eq0 : goal.returns-then-f-eq0
returns-then-f-eq0 c = expect_absent _ _ _ _ _ c.if-f-eq0.true

pub returns : goal.returns
returns c = expect_given_lem _ _ _ _ _ c.if-f-eq0.false
