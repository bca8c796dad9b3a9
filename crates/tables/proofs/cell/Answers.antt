-- `tables::cell`.
use native.Mathlib.Omega.{arith}
use borrow.Author.Rules.{rules}
use Rattle.tables.proofs.Laws.{product_fits, cell_past}
use Rattle.tables.proofs.cell.Goals as goal

pub overflow_mul-i : goal.overflow_mul-i
overflow_mul-i c = omega (arith, product_fits c.args.r c.args.w (omega arith) (omega arith))

pub overflow_add-i : goal.overflow_add-i
overflow_add-i c = omega (arith, product_fits c.args.r c.args.w (omega arith) (omega arith))

pub returns-else-i-t : goal.returns-else-i-t
returns-else-i-t c = search (cell_past, rules)
