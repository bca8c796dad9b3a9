-- `lines::prec_decl`.
use native.Mathlib.Omega.{arith}
use Rattle.scan.proofs.Bytes.{told}
use Rattle.finder.proofs.Laws.{grown_none}
use Rattle.grammar.specs.State.{Gapped}
use Rattle.grammar.proofs.Steps.{gap_passed, passed_on}
use Rattle.lines.proofs.Laws.{prec_line, prec_gap_lem}
use Rattle.lines.proofs.prec_decl.Goals as goal

pub prec_body-requires : goal.prec_body-requires
prec_body-requires c =
    let h = told (Gapped _ _) c.in-Ok.is c.pass_gap.ensures.moved in
    (record { within = h.1; short = c.requires.0.short }, c.requires.1)

pub returns-in-Ok : goal.returns-in-Ok
returns-in-Ok c =
    let e = c.in-Ok.is in
    record {
      is = prec_line _ _ _ _ _ _ _ _ c.pass_gap.ensures.is _ _ _ _ e c.next_level.ensures c.prec_body.ensures.is;
      moved = passed_on _ _ _ _ (gap_passed _ _ _ _ _ c.pass_gap.ensures.moved e) c.prec_body.ensures.moved;
      indexed = c.prec_body.ensures.indexed;
    }

pub returns-in-Err : goal.returns-in-Err
returns-in-Err c =
    record {
      is = prec_gap_lem _ _ _ _ _ _ _ _ c.pass_gap.ensures.is _ c.in-Err.is;
      moved = record { onward = omega arith; inside = c.requires.0.within };
      indexed = (c.requires.1, grown_none _);
    }
