-- `shipper::string_end`.
use native.Mathlib.Omega.{arith}
use Rattle.scan.proofs.Tuples.{err_is}
use Rattle.scan.proofs.Bytes.{told}
use Rattle.words.specs.Strings.{Stringed}
use Rattle.shipper.proofs.Laws.{string_is}
use Rattle.shipper.proofs.string_end.Goals as goal

pub returns-in-Ok : goal.returns-in-Ok
returns-in-Ok c =
    let g = told (Stringed _ _) c.in-Ok.is c.parse_string.ensures.stringed in
    let f0 = g.0 in
    let f1 = g.1 in
    record {
      is = string_is _ _ _ _ c.parse_string.ensures.value c.in-Ok.is;
      moved = record { onward = omega arith; inside = omega arith };
    }

pub returns-in-Err-NotOpened : goal.returns-in-Err-NotOpened
returns-in-Err-NotOpened c =
    record {
      is = string_is _ _ _ _ c.parse_string.ensures.value (err_is c.in-Err-NotOpened.is c.in-Err-NotOpened.field-0-is);
      moved = record { onward = omega arith; inside = c.requires.within };
    }

pub returns-in-Err-LineInside : goal.returns-in-Err-LineInside
returns-in-Err-LineInside c =
    record {
      is = string_is _ _ _ _ c.parse_string.ensures.value (err_is c.in-Err-LineInside.is c.in-Err-LineInside.field-0-is);
      moved = record { onward = omega arith; inside = c.requires.within };
    }

pub returns-in-Err-BadEscape : goal.returns-in-Err-BadEscape
returns-in-Err-BadEscape c =
    record {
      is = string_is _ _ _ _ c.parse_string.ensures.value (err_is c.in-Err-BadEscape.is c.in-Err-BadEscape.field-0-is);
      moved = record { onward = omega arith; inside = c.requires.within };
    }

pub returns-in-Err-NotClosed : goal.returns-in-Err-NotClosed
returns-in-Err-NotClosed c =
    record {
      is = string_is _ _ _ _ c.parse_string.ensures.value (err_is c.in-Err-NotClosed.is c.in-Err-NotClosed.field-0-is);
      moved = record { onward = omega arith; inside = c.requires.within };
    }
