-- `shipper::int_end`.
use native.Mathlib.Omega.{arith}
use Rattle.scan.proofs.Tuples.{err_is}
use Rattle.scan.proofs.Bytes.{told}
use Rattle.words.specs.Numbers.{Counted}
use Rattle.shipper.proofs.Laws.{int_is}
use Rattle.shipper.proofs.int_end.Goals as goal

pub returns-in-Ok : goal.returns-in-Ok
returns-in-Ok c =
    let g = told (Counted _ _) c.in-Ok.is c.parse_int.ensures.counted in
    let f0 = g.0 in
    let f1 = g.1 in
    record {
      is = int_is _ _ _ _ c.parse_int.ensures.value c.in-Ok.is;
      moved = record { onward = omega arith; inside = omega arith };
    }

pub returns-in-Err-NoDigits : goal.returns-in-Err-NoDigits
returns-in-Err-NoDigits c =
    record {
      is = int_is _ _ _ _ c.parse_int.ensures.value (err_is c.in-Err-NoDigits.is c.in-Err-NoDigits.field-0-is);
      moved = record { onward = omega arith; inside = c.requires.within };
    }

pub returns-in-Err-TooLarge : goal.returns-in-Err-TooLarge
returns-in-Err-TooLarge c =
    record {
      is = int_is _ _ _ _ c.parse_int.ensures.value (err_is c.in-Err-TooLarge.is c.in-Err-TooLarge.field-0-is);
      moved = record { onward = omega arith; inside = c.requires.within };
    }
