use Rattle.std.proofs.Common.{◌≡◌, true}
use Rattle.tables.specs.Below.{below}
use Rattle.index.specs.Index.{row_stands, Skips}
use Rattle.index.proofs.all_stand.Given as goal

abbrev pub invariant-loop-r : goal.invariant-loop-r
invariant-loop-r l = (below l.r (row_stands l.src l.w l.k l.t l.ix) ≡ true) × Skips l.ix l.r l.skips
