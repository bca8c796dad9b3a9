-- `bodies::prologue_decl`.
use mathlib.Core.Path.{refl}
use native.Mathlib.Omega.{arith}
use Rattle.grammar.proofs.Steps.{onward_passed, still}
use Rattle.bodies.proofs.Laws.{prologue_row, prologue_open, mark_inside}
use Rattle.bodies.proofs.prologue_decl.Goals as goal

pub overflow_cast-to : goal.overflow_cast-to
overflow_cast-to c =
    let x = mark_inside _ _ _ _ _ c.closing_mark.ensures.marked c.in-Some.is in
    omega (arith, x.1, c.requires.short)

pub overflow_add-to : goal.overflow_add-to
overflow_add-to c =
    let x = mark_inside _ _ _ _ _ c.closing_mark.ensures.marked c.in-Some.is in
    omega (arith, x.1, c.requires.short)

pub body_row-requires : goal.body_row-requires
body_row-requires c =
    let x = mark_inside _ _ _ _ _ c.closing_mark.ensures.marked c.in-Some.is in
    record { within = x.1; short = c.requires.short }

pub returns-in-Some : goal.returns-in-Some
returns-in-Some c =
    let x = mark_inside _ _ _ _ _ c.closing_mark.ensures.marked c.in-Some.is in
    let a = x.0 in
    record {
      is = prologue_row _ _ _ _ _ c.closing_mark.ensures.value _ _ _ c.in-Some.is c.body_row.ensures.is;
      moved = onward_passed _ _ _ _ _ _ c.body_row.ensures.moved refl (record { onward = omega arith; inside = x.1 });
      counted = c.body_row.ensures.counted;
    }

pub returns-in-None : goal.returns-in-None
returns-in-None c =
    record {
      is = prologue_open _ _ _ _ _ c.closing_mark.ensures.value c.in-None.is;
      moved = still _ _ c.requires;
      counted = refl;
    }
