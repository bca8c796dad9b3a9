-- `reach::word_of`: past the words there is 0.
use mathlib.Core.Path.{sym}
use lib.ListN.{get_or-eq_default}
use Rattle.reach.proofs.word_of.Goals as goal

pub returns-else-i-w : goal.returns-else-i-w
returns-else-i-w c = sym (get_or-eq_default c.args.w.now 0 c.if-i-w.false)
