-- `values::text_of`: the string there ends where the place does, or there is no text.
use mathlib.Core.Path.{refl}
use native.Mathlib.Omega.{arith}
use Rattle.scan.proofs.Tuples.{err_is}
use Rattle.values.proofs.Laws.{closed_inside, text_past, text_whole, text_other, text_none}
use Rattle.values.proofs.text_of.Goals as goal

pub returns-then-src-from : goal.returns-then-src-from
returns-then-src-from c =
    record {
      is = text_past _ _ _ _ _ c.cell-from.ensures c.cell-to.ensures c.if-src-from.true;
      inside = tt;
    }

pub overflow_sub-result : goal.overflow_sub-result
overflow_sub-result c = let i = closed_inside _ _ _ _ c.parse_string.ensures.stringed c.in-Ok.is in omega arith

pub returns-then-end-to : goal.returns-then-end-to
returns-then-end-to c =
    let i = closed_inside _ _ _ _ c.parse_string.ensures.stringed c.in-Ok.is in
    record {
      is = text_whole _ _ _ _ _ c.cell-from.ensures c.cell-to.ensures _ c.parse_string.ensures.value _ c.in-Ok.is c.if-end-to.true;
      inside = (omega arith, omega arith);
    }

pub returns-else-end-to : goal.returns-else-end-to
returns-else-end-to c =
    record {
      is = text_other _ _ _ _ _ c.cell-from.ensures c.cell-to.ensures _ c.parse_string.ensures.value _ c.in-Ok.is c.if-end-to.false;
      inside = tt;
    }

pub returns-in-Err-NotOpened : goal.returns-in-Err-NotOpened
returns-in-Err-NotOpened c =
    record {
      is = text_none _ _ _ _ _ c.cell-from.ensures c.cell-to.ensures _ c.parse_string.ensures.value _ (err_is c.in-Err-NotOpened.is c.in-Err-NotOpened.field-0-is) refl;
      inside = tt;
    }

pub returns-in-Err-LineInside : goal.returns-in-Err-LineInside
returns-in-Err-LineInside c =
    record {
      is = text_none _ _ _ _ _ c.cell-from.ensures c.cell-to.ensures _ c.parse_string.ensures.value _ (err_is c.in-Err-LineInside.is c.in-Err-LineInside.field-0-is) refl;
      inside = tt;
    }

pub returns-in-Err-BadEscape : goal.returns-in-Err-BadEscape
returns-in-Err-BadEscape c =
    record {
      is = text_none _ _ _ _ _ c.cell-from.ensures c.cell-to.ensures _ c.parse_string.ensures.value _ (err_is c.in-Err-BadEscape.is c.in-Err-BadEscape.field-0-is) refl;
      inside = tt;
    }

pub returns-in-Err-NotClosed : goal.returns-in-Err-NotClosed
returns-in-Err-NotClosed c =
    record {
      is = text_none _ _ _ _ _ c.cell-from.ensures c.cell-to.ensures _ c.parse_string.ensures.value _ (err_is c.in-Err-NotClosed.is c.in-Err-NotClosed.field-0-is) refl;
      inside = tt;
    }
