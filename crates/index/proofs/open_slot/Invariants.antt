use Rattle.std.proofs.Common.{◌≡◌, ◌<◌, length}
use Rattle.index.specs.Index.{open_slot}
use Rattle.index.proofs.open_slot.Given as goal

abbrev pub invariant-loop-left : goal.invariant-loop-left
invariant-loop-left l = (l.p < length l.ix) × (open_slot l.ix l.r l.left l.p ≡ open_slot l.ix l.r (length l.ix) l.from)

abbrev pub decreases-loop-left : goal.decreases-loop-left
decreases-loop-left l = l.left
