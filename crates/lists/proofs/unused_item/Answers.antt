-- `lists::unused_item`.
use mathlib.Core.Path.{refl}
use native.Mathlib.Omega.{arith}
use Rattle.scan.proofs.Bytes.{told}
use Rattle.grammar.proofs.Steps.{moves, refused_put}
use Rattle.lists.specs.Written.{Spells}
use Rattle.lists.proofs.Laws.{unused_spelled_lem, unused_none}
use Rattle.lists.proofs.unused_item.Goals as goal

pub overflow_cast-from : goal.overflow_cast-from
overflow_cast-from c =
    let x = told (Spells _ _) c.in-Ok.is c.spelled.ensures.moved in
    omega (arith, x.3, x.4, x.6, c.requires.short)

pub overflow_cast-to : goal.overflow_cast-to
overflow_cast-to c =
    let x = told (Spells _ _) c.in-Ok.is c.spelled.ensures.moved in
    omega (arith, x.4, x.6, c.requires.short)

pub unused_row-requires : goal.unused_row-requires
unused_row-requires c =
    let x = told (Spells _ _) c.in-Ok.is c.spelled.ensures.moved in
    record { within = x.6; short = c.requires.short }

pub overflow_cast-result : goal.overflow_cast-result
overflow_cast-result c =
    let x = told (Spells _ _) c.in-Err.is c.spelled.ensures.moved in
    omega (arith, x, c.requires.within, c.requires.short)

pub returns-in-Ok : goal.returns-in-Ok
returns-in-Ok c =
    let x = told (Spells _ _) c.in-Ok.is c.spelled.ensures.moved in
    record {
      is = unused_spelled_lem _ _ _ c.spelled.ensures.is _ _ _ _ _ _ c.in-Ok.is c.unused_row.ensures.is;
      moved = moves _ _ _ _ _ _ refl x.5 x.6 c.unused_row.ensures.moved;
    }

pub returns-in-Err : goal.returns-in-Err
returns-in-Err c =
    record {
      is = unused_none _ _ _ c.spelled.ensures.is _ _ c.in-Err.is;
      moved = refused_put _ _ _ c.requires.within;
    }
