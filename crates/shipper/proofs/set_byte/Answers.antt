-- `set_byte`: past the end a store changes nothing.
use mathlib.Core.Path.{sym}
use lib.Seq.{set_out}
use Rattle.shipper.proofs.set_byte.Goals as goal

pub returns-else-k-out : goal.returns-else-k-out
returns-else-k-out c = sym (set_out _ _ _ c.if-k-out.false)
