-- `shipper::colon_end`.
use native.Mathlib.Omega.{arith}
use Rattle.scan.proofs.Bytes.{told}
use Rattle.texts.specs.Colon.{ColonTexts}
use Rattle.shipper.proofs.Laws.{colon_is}
use Rattle.shipper.proofs.colon_end.Goals as goal

pub returns-in-Ok : goal.returns-in-Ok
returns-in-Ok c =
    let g = told (ColonTexts _ _) c.in-Ok.is c.parse_to_single_colon.ensures.colon_texts in
    let f0 = g.0 in
    let f1 = g.1 in
    record {
      is = colon_is _ _ _ _ c.parse_to_single_colon.ensures.value c.in-Ok.is;
      moved = record { onward = omega arith; inside = omega arith };
    }

pub returns-in-Err : goal.returns-in-Err
returns-in-Err c =
    record {
      is = colon_is _ _ _ _ c.parse_to_single_colon.ensures.value c.in-Err.is;
      moved = record { onward = omega arith; inside = c.requires.within };
    }
