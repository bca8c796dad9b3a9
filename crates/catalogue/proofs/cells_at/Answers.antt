-- `catalogue::cells_at`: 32 bits times a width of at most 13.
use native.Mathlib.Omega.{arith}
use Rattle.catalogue.proofs.Laws.{cells_most, cells_are}
use Rattle.catalogue.proofs.cells_at.Goals as goal

pub overflow_mul-result : goal.overflow_mul-result
overflow_mul-result c = record { fits = omega (arith, cells_most c.args.k c.rows_at.result c.width_of.result (omega arith) c.width_of.ensures) }

pub returns : goal.returns
returns c =
    let a = c.args in
    record {
      value = cells_are a.c a.p a.k _ _ c.rows_at.ensures c.width_of.ensures;
      upper_bound = cells_most a.k c.rows_at.result c.width_of.result (omega arith) c.width_of.ensures;
    }
