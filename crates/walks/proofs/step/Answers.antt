-- `walks::step`: line and column are those of the source's begin.
use Rattle.walks.proofs.Laws.{spot_next}
use Rattle.walks.proofs.step.Goals as goal

pub returns : goal.returns
returns c =
    record {
      advanced = c.advance-p.ensures;
      spot_value = spot_next _ c.advance-p.result.answer _ c.locate.ensures;
    }
