-- `shipper::name_end`.
use native.Mathlib.Omega.{arith}
use Rattle.scan.proofs.Bytes.{told}
use Rattle.words.specs.Words.{Named}
use Rattle.shipper.proofs.Laws.{name_is}
use Rattle.shipper.proofs.name_end.Goals as goal

pub returns-in-Ok : goal.returns-in-Ok
returns-in-Ok c =
    let g = told (Named _ _) c.in-Ok.is c.parse_name.ensures.named in
    let f0 = g.0 in
    let f1 = g.1 in
    record {
      is = name_is _ _ _ _ c.parse_name.ensures.value c.in-Ok.is;
      moved = record { onward = omega arith; inside = omega arith };
    }

pub returns-in-Err : goal.returns-in-Err
returns-in-Err c =
    record {
      is = name_is _ _ _ _ c.parse_name.ensures.value c.in-Err.is;
      moved = record { onward = omega arith; inside = c.requires.within };
    }
