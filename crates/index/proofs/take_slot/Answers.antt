-- `index::take_slot`.
use Rattle.std.proofs.Common.{sym}
use lib.Seq.{set_out}
use Rattle.index.proofs.take_slot.Goals as goal

pub returns-else-z-ix : goal.returns-else-z-ix
returns-else-z-ix c = sym (set_out _ _ _ c.if-z-ix.false)
