-- `shipper::action_end`.
use native.Mathlib.Omega.{arith}
use Rattle.scan.proofs.Bytes.{told}
use Rattle.texts.specs.Action.{Acted}
use Rattle.shipper.proofs.Laws.{action_none, action_is}
use Rattle.shipper.proofs.action_end.Goals as goal

pub returns-then-src-at : goal.returns-then-src-at
returns-then-src-at c =
    record {
      is = action_none _ _ c.if-src-at.true;
      moved = record { onward = omega arith; inside = c.requires.within };
    }

pub returns-in-Ok : goal.returns-in-Ok
returns-in-Ok c =
    let g = told (Acted _ _) c.in-Ok.is c.parse_action.ensures.acted in
    let f0 = g.0 in
    let f1 = g.1 in
    record {
      is = action_is _ _ c.if-src-at.false _ _ c.parse_action.ensures.value c.in-Ok.is;
      moved = record { onward = omega arith; inside = omega arith };
    }

pub returns-in-Err : goal.returns-in-Err
returns-in-Err c =
    record {
      is = action_is _ _ c.if-src-at.false _ _ c.parse_action.ensures.value c.in-Err.is;
      moved = record { onward = omega arith; inside = c.requires.within };
    }
