use Rattle.std.proofs.Common.{◌≡◌, ◌-◌, ◌<◌, length}
use Rattle.tables.specs.Table.{has_name}
use Rattle.index.specs.Index.{probed, lookup}
use Rattle.index.proofs.probe.Given as goal

abbrev pub invariant-loop : goal.invariant-loop
invariant-loop l =
    (l.p < length l.ix) × (probed (has_name l.src l.w l.k l.t l.a l.b) l.ix (l.m - l.counter) l.p ≡ lookup l.src l.w l.k l.t l.ix l.a l.b)
