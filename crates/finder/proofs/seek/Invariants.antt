use Prim.Native.Nat.{ℕ, ◌-◌, ◌<◌}
use lib.ListN.{length}
use Rattle.finder.proofs.Laws.{Left, Behind}
use Rattle.finder.proofs.seek.Given as goal

abbrev pub invariant-loop : goal.invariant-loop
invariant-loop l =
    (l.p < length l.ix) × Left l.src l.w l.k l.n l.t l.ix l.a l.b (l.m - l.counter) l.p × ((v : ℕ) → Behind l.ix v l.x (l.m - l.counter) l.p)
