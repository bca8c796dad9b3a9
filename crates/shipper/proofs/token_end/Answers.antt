-- `shipper::token_end`.
use native.Mathlib.Omega.{arith}
use Rattle.scan.proofs.Bytes.{told}
use Rattle.words.specs.Words.{Tokened}
use Rattle.shipper.proofs.Laws.{token_is}
use Rattle.shipper.proofs.token_end.Goals as goal

pub returns-in-Ok : goal.returns-in-Ok
returns-in-Ok c =
    let g = told (Tokened _ _) c.in-Ok.is c.parse_token.ensures.tokened in
    let f0 = g.0 in
    let f1 = g.1 in
    let f2 = g.2 in
    let f3 = g.3 in
    record {
      is = token_is _ _ _ _ c.parse_token.ensures.value c.in-Ok.is;
      moved = record { onward = omega arith; inside = omega arith };
    }

pub returns-in-Err : goal.returns-in-Err
returns-in-Err c =
    record {
      is = token_is _ _ _ _ c.parse_token.ensures.value c.in-Err.is;
      moved = record { onward = omega arith; inside = c.requires.within };
    }
