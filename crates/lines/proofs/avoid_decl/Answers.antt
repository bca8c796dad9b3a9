-- `lines::avoid_decl`.
use native.Mathlib.Omega.{arith}
use Rattle.scan.proofs.Bytes.{told}
use Rattle.finder.proofs.Laws.{grown_none}
use Rattle.grammar.specs.State.{Gapped}
use Rattle.grammar.proofs.Steps.{gap_passed, passed_on}
use Rattle.lines.proofs.Laws.{avoid_end_lem, avoid_line, avoid_gap}
use Rattle.lines.proofs.avoid_decl.Goals as goal

pub returns-then-src-at : goal.returns-then-src-at
returns-then-src-at c =
    record {
      is = avoid_end_lem _ _ _ _ _ _ _ c.if-src-at.true;
      moved = record { onward = omega arith; inside = c.requires.0.within };
      indexed = (c.requires.1, (c.requires.4, grown_none _));
    }

pub avoid_list-requires : goal.avoid_list-requires
avoid_list-requires c =
    let h = told (Gapped _ _) c.in-Ok.is c.pass_gap.ensures.moved in
    (record { within = h.1; short = c.requires.0.short }, c.requires.1, c.requires.2, c.requires.3, c.requires.4)

pub returns-in-Ok : goal.returns-in-Ok
returns-in-Ok c =
    let e = c.in-Ok.is in
    record {
      is = avoid_line _ _ _ _ _ _ _ c.if-src-at.false _ c.pass_gap.ensures.is _ _ _ e c.avoid_list.ensures.is;
      moved = passed_on _ _ _ _ (gap_passed _ _ _ _ _ c.pass_gap.ensures.moved e) c.avoid_list.ensures.moved;
      indexed = c.avoid_list.ensures.indexed;
    }

pub returns-in-Err : goal.returns-in-Err
returns-in-Err c =
    record {
      is = avoid_gap _ _ _ _ _ _ _ c.if-src-at.false _ c.pass_gap.ensures.is _ c.in-Err.is;
      moved = record { onward = omega arith; inside = c.requires.0.within };
      indexed = (c.requires.1, (c.requires.4, grown_none _));
    }
