-- `singles::put_cells`: as many cells are stored as there is room for.
use mathlib.Core.Path.{sym}
use native.Mathlib.Omega.{arith}
use Rattle.singles.proofs.Laws.{put_past, put_room}
use Rattle.singles.proofs.put_cells.Goals as goal

pub returns-then-at-out : goal.returns-then-at-out
returns-then-at-out c =
    let a = c.args in
    rw c.copy_from_slice.ensures.after (put_room a.cells.now a.out.now a.at c.min-n.result _ (omega (arith, c.min-n.ensures)) (omega (arith, c.min-n.ensures)) (λ h. omega (arith, c.min-n.ensures)) (omega arith))

pub returns-else-at-out : goal.returns-else-at-out
returns-else-at-out c = sym (put_past c.args.cells.now c.args.out.now c.args.at (omega arith))
