-- `shipper::past_colon`.
use native.Mathlib.Omega.{arith}
use Rattle.scan.proofs.Bytes.{at_next}
use Rattle.shipper.proofs.Laws.{colon_past, colon_stays}
use Rattle.shipper.proofs.past_colon.Goals as goal

pub returns-then-is_at : goal.returns-then-is_at
returns-then-is_at c =
    record {
      is = colon_past _ _ _ c.is_at.ensures c.if-is_at.true;
      moved = record { onward = omega arith; inside = at_next _ _ _ _ c.is_at.ensures c.if-is_at.true };
    }

pub returns : goal.returns
returns c =
    record {
      is = colon_stays _ _ _ c.is_at.ensures c.if-is_at.false;
      moved = record { onward = omega arith; inside = c.requires.within };
    }
