-- `validation::is_indexed`: what the lookup comes to.
use Rattle.validation.proofs.Laws.{known_is}
use Rattle.validation.proofs.is_indexed.Goals as goal

pub returns-in-Some : goal.returns-in-Some
returns-in-Some c = known_is _ _ _ _ _ _ _ _ c.find.ensures c.in-Some.is

pub returns-in-None : goal.returns-in-None
returns-in-None c = known_is _ _ _ _ _ _ _ _ c.find.ensures c.in-None.is
