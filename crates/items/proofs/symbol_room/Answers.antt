-- `items::symbol_room`.
use mathlib.Core.Path.{sym}
use native.Mathlib.Omega.{arith}
use Rattle.tables.proofs.Laws.{room_last}
use Rattle.items.proofs.Runs.{room_is}
use Rattle.items.proofs.symbol_room.Goals as goal

pub returns-then-n-eq4294967295 : goal.returns-then-n-eq4294967295
returns-then-n-eq4294967295 c = sym (room_last 4 _ _ (omega arith))

pub returns : goal.returns
returns c = room_is 4 _ _ (omega (arith, c.if-n-eq4294967295.false, c.ranges.n))
