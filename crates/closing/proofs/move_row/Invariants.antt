use mathlib.Core.Path.{◌≡◌}
use lib.ListN.{take}
use Rattle.tables.specs.Table.{put}
use Rattle.tables.specs.Rows.{row_at}
use Rattle.closing.proofs.move_row.Given as goal

abbrev pub invariant-loop-i : goal.invariant-loop-i
invariant-loop-i l = l.t ≡ put l.initial.t l.b (take l.i (row_at l.w l.initial.t l.from))
