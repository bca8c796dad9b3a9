-- `rules::first_start`.
use Rattle.rules.proofs.Laws.{start_none, start_given_lem}
use Rattle.rules.proofs.first_start.Goals as goal

pub returns-in-None : goal.returns-in-None
returns-in-None c = start_none _ _ _ _ c.in-None.is c.with_start-n.ensures

pub returns-in-Some : goal.returns-in-Some
returns-in-Some c = start_given_lem _ _ _ _ _ c.in-Some.is
