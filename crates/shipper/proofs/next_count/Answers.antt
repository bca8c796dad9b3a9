-- `shipper::next_count`.
use Rattle.shipper.proofs.Laws.{next_on, next_stay}
use Rattle.shipper.proofs.next_count.Goals as goal

pub returns-then-n-lt65537 : goal.returns-then-n-lt65537
returns-then-n-lt65537 c = next_on _ c.if-n-lt65537.true

pub returns : goal.returns
returns c = next_stay _ c.if-n-lt65537.false
