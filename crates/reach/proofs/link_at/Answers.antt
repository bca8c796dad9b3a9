-- `reach::link_at`: past the end there is 0.
use mathlib.Core.Path.{sym}
use lib.ListN.{get_or-eq_default}
use Rattle.reach.proofs.link_at.Goals as goal

pub returns-else-i-x : goal.returns-else-i-x
returns-else-i-x c = sym (get_or-eq_default c.args.x.now 0 c.if-i-x.false)
