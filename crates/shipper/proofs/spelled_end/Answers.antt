-- `shipper::spelled_end`.
use native.Mathlib.Omega.{arith}
use Rattle.scan.proofs.Bytes.{told}
use Rattle.lists.specs.Written.{Spells}
use Rattle.shipper.proofs.Laws.{spelled_is}
use Rattle.shipper.proofs.spelled_end.Goals as goal

pub returns-in-Ok : goal.returns-in-Ok
returns-in-Ok c =
    let g = told (Spells _ _) c.in-Ok.is c.spelled.ensures.moved in
    let f5 = g.5 in
    let f6 = g.6 in
    record {
      is = spelled_is _ _ _ _ c.spelled.ensures.is c.in-Ok.is;
      moved = record { onward = omega arith; inside = omega arith };
    }

pub returns-in-Err : goal.returns-in-Err
returns-in-Err c =
    record {
      is = spelled_is _ _ _ _ c.spelled.ensures.is c.in-Err.is;
      moved = record { onward = omega arith; inside = c.requires.within };
    }
