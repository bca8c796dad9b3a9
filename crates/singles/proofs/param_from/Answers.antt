-- `singles::param_from`.
use Rattle.singles.proofs.Laws.{param_absent, param_given_lem}
use Rattle.singles.proofs.param_from.Goals as goal

pub returns-then-f-eq0 : goal.returns-then-f-eq0
returns-then-f-eq0 c = param_absent _ _ _ _ _ c.if-f-eq0.true

pub returns : goal.returns
returns c = param_given_lem _ _ _ _ _ c.if-f-eq0.false
