use Rattle.std.proofs.Common.{◌≡◌, length}
use Rattle.index.specs.Index.{entries, Skips}
use Rattle.index.proofs.enter_all.Given as goal

abbrev pub invariant-loop-r : goal.invariant-loop-r
invariant-loop-r l = (l.ix ≡ entries l.src l.w l.k l.t (length l.initial.ix) l.r) × Skips l.ix l.r l.skips
