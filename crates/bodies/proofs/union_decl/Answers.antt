-- `bodies::union_decl`.
use mathlib.Core.Path.{refl}
use Rattle.grammar.proofs.Steps.{gap_passed, passed_here, still}
use Rattle.bodies.proofs.Laws.{union_from_lem, union_refused}
use Rattle.bodies.proofs.union_decl.Goals as goal

pub union_body-requires : goal.union_body-requires
union_body-requires c =
    let p = gap_passed _ _ _ _ _ c.pass_gap.ensures.moved c.in-Ok.is in
    (passed_here _ _ _ c.requires p, p)

pub returns-in-Ok : goal.returns-in-Ok
returns-in-Ok c =
    record {
      is = union_from_lem _ _ _ _ _ c.pass_gap.ensures.is _ _ _ c.in-Ok.is c.union_body.ensures.is;
      moved = c.union_body.ensures.moved;
      counted = c.union_body.ensures.counted;
    }

pub returns-in-Err : goal.returns-in-Err
returns-in-Err c =
    record {
      is = union_refused _ _ _ _ _ c.pass_gap.ensures.is _ c.in-Err.is;
      moved = still _ _ c.requires;
      counted = refl;
    }
