-- `shipper::gap_end`.
use native.Mathlib.Omega.{arith}
use Rattle.scan.proofs.Bytes.{told}
use Rattle.grammar.specs.State.{Gapped}
use Rattle.shipper.proofs.Laws.{gap_is}
use Rattle.shipper.proofs.gap_end.Goals as goal

pub returns-in-Ok : goal.returns-in-Ok
returns-in-Ok c =
    let g = told (Gapped _ _) c.in-Ok.is c.pass_gap.ensures.moved in
    let a = g.0 in
    record {
      is = gap_is _ _ _ _ _ _ c.pass_gap.ensures.is c.in-Ok.is;
      moved = record { onward = omega arith; inside = g.1 };
    }

pub returns-in-Err : goal.returns-in-Err
returns-in-Err c =
    record {
      is = gap_is _ _ _ _ _ _ c.pass_gap.ensures.is c.in-Err.is;
      moved = record { onward = omega arith; inside = c.requires.within };
    }
