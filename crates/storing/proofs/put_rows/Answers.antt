-- `storing::put_rows`: the place and the cells of a table are those that the catalogue gives it.
use native.Mathlib.Omega.{arith}
use Rattle.storing.proofs.Laws.{from_most, put_as}
use Rattle.storing.proofs.put_rows.Goals as goal

pub put_numbers-requires : goal.put_numbers-requires
put_numbers-requires c = (
  omega (arith, c.rows_from.ensures.value),
  omega (arith, c.rows_from.ensures.value, c.cells_at.ensures.value, c.requires.2, from_most c.args.c c.args.p c.args.k c.requires.0),
  omega (arith, c.rows_from.ensures.upper_bound, c.cells_at.ensures.upper_bound),
  omega (arith, c.cells_at.ensures.value, c.requires.1),
)

pub returns : goal.returns
returns c =
    let a = c.args in
    put_as a.c a.p _ _ _ _ _ a.k c.rows_from.ensures.value c.cells_at.ensures.value c.put_numbers.ensures
