-- `finder::seat`.
use Prim.Native.Nat.{◌*◌}
use mathlib.Core.Path.{refl}
use native.Mathlib.Omega.{arith}
use Rattle.finder.specs.Finder.{seat_of}
use Rattle.finder.proofs.Laws.{product_fits, seat_inside}
use Rattle.finder.proofs.seat.Goals as goal

pub overflow_mul-result : goal.overflow_mul-result
overflow_mul-result c = omega (arith, product_fits (c.args.x * 2654435769) c.args.m)

pub returns : goal.returns
unfolding seat_of
returns c =
    record {
      is = refl;
      inside = seat_inside c.args.m c.args.x c.requires;
    }
