-- `catalogue::content_size`.
use Prim.Native.Nat.{ℕ, ◌+◌}
use mathlib.Core.Path.{ap}
use native.Mathlib.Omega.{arith}
use Rattle.catalogue.specs.Catalogue.{content_size}
use Rattle.catalogue.proofs.content_size.Goals as goal

pub returns : goal.returns
unfolding content_size
returns c =
    record {
      value = ap (λ (k : ℕ). k + c.args.n) c.rows_from.ensures.value;
      upper_bound = omega (arith, c.rows_from.ensures.upper_bound);
    }
