-- `places::locate`.
use borrow.Author.Rules.{rules}
use Rattle.places.proofs.Laws.{spot_long, spot_inside, spot_end}
use Rattle.places.proofs.locate.Goals as goal

pub returns-then-len-gt65536 : goal.returns-then-len-gt65536
returns-then-len-gt65536 c = search (spot_long, rules)

pub returns-then-to-len : goal.returns-then-to-len
returns-then-to-len c = search (spot_inside, rules)

pub returns : goal.returns
returns c = search (spot_end, rules)
