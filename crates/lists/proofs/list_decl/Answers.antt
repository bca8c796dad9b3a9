-- `lists::list_decl`: spacing without line ends, then the list.
use native.Mathlib.Omega.{arith}
use Rattle.scan.proofs.Bytes.{told}
use Rattle.grammar.specs.State.{Gapped}
use Rattle.lists.proofs.Laws.{list_from_lem, list_refused}
use Rattle.lists.proofs.list_decl.Goals as goal

pub list_body-requires : goal.list_body-requires
list_body-requires c = (record { within = (told (Gapped _ _) c.in-Ok.is c.pass_gap.ensures.moved).1; short = c.requires.0.short }, c.requires.1)

pub returns-in-Ok : goal.returns-in-Ok
returns-in-Ok c =
    let g = (told (Gapped _ _) c.in-Ok.is c.pass_gap.ensures.moved).0 in
    let m = c.list_body.ensures.moved.onward in
    record {
      is = list_from_lem _ _ _ _ _ _ _ c.pass_gap.ensures.is _ _ _ c.in-Ok.is c.list_body.ensures.is;
      moved = record { onward = omega arith; inside = c.list_body.ensures.moved.inside };
      indexed = c.list_body.ensures.indexed;
    }

pub returns-in-Err : goal.returns-in-Err
returns-in-Err c =
    record {
      is = list_refused _ _ _ _ _ _ _ c.pass_gap.ensures.is _ c.in-Err.is;
      moved = record { onward = omega arith; inside = c.requires.0.within };
      indexed = c.requires.1;
    }
