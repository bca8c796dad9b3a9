use Rattle.std.proofs.Common.{◌≡◌, ◌-◌, ◌<◌, length}
use Rattle.index.specs.Index.{free_slot}
use Rattle.index.proofs.free_slot.Given as goal

abbrev pub invariant-loop : goal.invariant-loop
invariant-loop l = (l.p < length l.ix) × (free_slot l.ix (l.m - l.counter) l.p ≡ free_slot l.ix (length l.ix) l.from)
