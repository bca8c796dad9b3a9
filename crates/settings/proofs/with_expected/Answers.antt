-- `settings::with_expected`: one field or the other.
use Rattle.settings.proofs.with_expected.Goals as goal

pub returns-then-rr : goal.returns-then-rr
returns-then-rr c = rw c.if-rr.true

pub returns : goal.returns
returns c = rw c.if-rr.false
