-- `catalogue::is_filled`: blocks that are filled are no fewer than the content takes.
use Rattle.catalogue.proofs.Laws.{filled_not, filled_is}
use Rattle.catalogue.proofs.is_filled.Goals as goal

pub returns-then-n-all : goal.returns-then-n-all
returns-then-n-all c =
    let a = c.args in
    filled_not a.s.now a.n c.if-n-all.true

pub returns : goal.returns
returns c =
    let a = c.args in
    filled_is a.s.now a.n _ c.if-n-all.false c.zero_bytes.ensures
