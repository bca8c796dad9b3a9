use Rattle.std.proofs.Common.{◌≡◌, ◌+◌, ◌≤◌, drop}
use Rattle.index.specs.Index.{filled}
use Rattle.index.proofs.count_filled.Given as goal

abbrev pub invariant-loop-v : goal.invariant-loop-v
invariant-loop-v l = (l.n ≤ l.v-index) × (l.n + filled (drop l.v-index l.ix) ≡ filled l.ix)
