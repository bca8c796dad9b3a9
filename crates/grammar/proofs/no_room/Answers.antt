-- `grammar::no_room`: table and place come from the table's number and the row.
use native.Mathlib.Omega.{arith}
use Rattle.grammar.proofs.no_room.Goals as goal

pub overflow_add-p : goal.overflow_add-p
overflow_add-p c =
    let h = c.row_place-p.ensures.upper_bound in
    omega arith

pub returns : goal.returns
returns c = rw (c.cell_in_row-2.ensures, c.cell_in_row.ensures, c.table_number.ensures, c.row_place-p.ensures.value)
