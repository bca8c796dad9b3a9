-- `shipper::put_spaced`.
use mathlib.Core.List.{[], ◌∷◌}
use Rattle.shipper.proofs.Laws.{emit_then}
use Rattle.shipper.proofs.put_spaced.Goals as goal

pub returns : goal.returns
returns c = emit_then _ _ _ _ (32 ∷ []) _ c.put_byte-m.ensures _ _ c.put_part.ensures
