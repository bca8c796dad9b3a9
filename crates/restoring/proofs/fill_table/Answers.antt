-- `restoring::fill_table`: a table's rows lie where its place is counted.
use native.Mathlib.Omega.{arith}
use Rattle.restoring.proofs.Laws.{rows_fit, table_filled}
use Rattle.restoring.proofs.fill_table.Goals as goal

pub get_numbers-requires : goal.get_numbers-requires
get_numbers-requires c =
    let f = rows_fit c.args.c c.args.p c.args.k _ c.rows_from.result c.cells_at.result c.requires.0 c.requires.2 c.rows_from.ensures.value c.cells_at.ensures.value in
    (f.0, f.1, omega (arith, c.rows_from.ensures.upper_bound, c.cells_at.ensures.upper_bound), omega (arith, c.cells_at.ensures.value, c.requires.1))

pub shape_of-t : goal.shape_of-t
shape_of-t c = c.get_numbers.auto.t

pub returns : goal.returns
returns c = table_filled _ _ _ _ _ _ _ _ c.rows_from.ensures.value c.cells_at.ensures.value c.get_numbers.ensures
