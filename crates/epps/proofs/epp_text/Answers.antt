-- `epps::epp_text`: a cause for each way a string fails.
use native.Mathlib.Omega.{arith}
use Rattle.scan.proofs.Tuples.{err_is}
use Rattle.scan.proofs.Bytes.{told}
use Rattle.words.specs.Strings.{Stringed}
use Rattle.finder.proofs.Laws.{grown_none}
use Rattle.grammar.proofs.Steps.{nearer, refused_stays}
use Rattle.epps.proofs.Laws.{text_closed, text_not_opened, text_line, text_escape, text_not_closed}
use Rattle.epps.proofs.epp_text.Goals as goal

pub overflow_cast-v : goal.overflow_cast-v
overflow_cast-v c = omega (arith, c.requires.0.within, c.requires.0.short)

pub epp_given-requires : goal.epp_given-requires
epp_given-requires c =
    (record { within = (told (Stringed _ _) c.in-Ok.is c.parse_string.ensures.stringed).1; short = c.requires.0.short }, c.requires.1)

pub overflow_cast-result : goal.overflow_cast-result
overflow_cast-result c =
    let h = told (Stringed _ _) (err_is c.in-Err-NotOpened.is c.in-Err-NotOpened.field-0-is) c.parse_string.ensures.stringed in
    omega (arith, c.requires.0.within, c.requires.0.short)

pub overflow_cast-result-in-Err-LineInside : goal.overflow_cast-result-in-Err-LineInside
overflow_cast-result-in-Err-LineInside c =
    let h = told (Stringed _ _) (err_is c.in-Err-LineInside.is c.in-Err-LineInside.field-0-is) c.parse_string.ensures.stringed in
    omega (arith, c.requires.0.within, c.requires.0.short)

pub overflow_cast-result-in-Err-BadEscape : goal.overflow_cast-result-in-Err-BadEscape
overflow_cast-result-in-Err-BadEscape c =
    let h = told (Stringed _ _) (err_is c.in-Err-BadEscape.is c.in-Err-BadEscape.field-0-is) c.parse_string.ensures.stringed in
    omega (arith, c.requires.0.within, c.requires.0.short)

pub overflow_cast-result-in-Err-NotClosed : goal.overflow_cast-result-in-Err-NotClosed
overflow_cast-result-in-Err-NotClosed c =
    let h = told (Stringed _ _) (err_is c.in-Err-NotClosed.is c.in-Err-NotClosed.field-0-is) c.parse_string.ensures.stringed in
    omega (arith, c.requires.0.within, c.requires.0.short)

pub returns-in-Ok : goal.returns-in-Ok
returns-in-Ok c =
    let h = (told (Stringed _ _) c.in-Ok.is c.parse_string.ensures.stringed).0 in record {
      is = text_closed _ _ _ _ _ _ _ _ _ _ c.parse_string.ensures.value _ _ c.in-Ok.is c.epp_given.ensures.is;
      moved = nearer _ _ _ _ _ _ (omega arith) c.epp_given.ensures.moved;
      indexed = c.epp_given.ensures.indexed;
    }

pub returns-in-Err-NotOpened : goal.returns-in-Err-NotOpened
returns-in-Err-NotOpened c =
    record {
      is = text_not_opened _ _ _ _ _ _ _ _ _ _ c.parse_string.ensures.value _ (err_is c.in-Err-NotOpened.is c.in-Err-NotOpened.field-0-is);
      moved = refused_stays _ _ _ _;
      indexed = (c.requires.1, grown_none _);
    }

pub returns-in-Err-LineInside : goal.returns-in-Err-LineInside
returns-in-Err-LineInside c =
    record {
      is = text_line _ _ _ _ _ _ _ _ _ _ c.parse_string.ensures.value _ (err_is c.in-Err-LineInside.is c.in-Err-LineInside.field-0-is);
      moved = refused_stays _ _ _ _;
      indexed = (c.requires.1, grown_none _);
    }

pub returns-in-Err-BadEscape : goal.returns-in-Err-BadEscape
returns-in-Err-BadEscape c =
    record {
      is = text_escape _ _ _ _ _ _ _ _ _ _ c.parse_string.ensures.value _ (err_is c.in-Err-BadEscape.is c.in-Err-BadEscape.field-0-is);
      moved = refused_stays _ _ _ _;
      indexed = (c.requires.1, grown_none _);
    }

pub returns-in-Err-NotClosed : goal.returns-in-Err-NotClosed
returns-in-Err-NotClosed c =
    record {
      is = text_not_closed _ _ _ _ _ _ _ _ _ _ c.parse_string.ensures.value _ (err_is c.in-Err-NotClosed.is c.in-Err-NotClosed.field-0-is);
      moved = refused_stays _ _ _ _;
      indexed = (c.requires.1, grown_none _);
    }
