-- `finder::meet`: what the slots tell, or the search.
use Rattle.finder.proofs.Laws.{tells_met, tells_none, met_search}
use Rattle.finder.proofs.meet.Goals as goal

pub returns-in-Seated : goal.returns-in-Seated
returns-in-Seated c asked led = tells_met asked _ _ _ _ _ _ _ _ _ (c.seek.ensures asked led) _ c.in-Seated.is

pub returns-in-Unseated : goal.returns-in-Unseated
returns-in-Unseated c asked led = tells_none asked _ _ _ _ _ _ _ _ _ (c.seek.ensures asked led) c.in-Unseated.is

pub returns-in-Untold : goal.returns-in-Untold
returns-in-Untold c asked led = met_search asked _ _ _ _ _ _ _ _ c.find.ensures
