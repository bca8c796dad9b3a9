-- `bodies::union_body`.
use mathlib.Core.Path.{◌∙◌, refl, sym}
use native.Mathlib.Omega.{arith}
use Rattle.scan.proofs.Bytes.{at_below}
use Rattle.grammar.proofs.Steps.{onward_passed}
use Rattle.bodies.proofs.Laws.{union_row, union_open, union_none, brace_inside}
use Rattle.bodies.proofs.union_body.Goals as goal

-- a brace stands in the source, and so does what closes it
pub closing_brace-requires : goal.closing_brace-requires
closing_brace-requires c =
    let l = at_below _ _ 123 (sym c.is_at.ensures ∙ c.if-is_at.true) in
    omega (arith, l)

pub overflow_cast-to : goal.overflow_cast-to
overflow_cast-to c =
    let x = brace_inside _ _ _ _ _ c.closing_brace.ensures.braced c.in-Some.is in
    omega (arith, x.1, c.requires.0.short)

pub overflow_add-to : goal.overflow_add-to
overflow_add-to c =
    let x = brace_inside _ _ _ _ _ c.closing_brace.ensures.braced c.in-Some.is in
    omega (arith, x.1, c.requires.0.short)

pub body_row-requires : goal.body_row-requires
body_row-requires c =
    let x = brace_inside _ _ _ _ _ c.closing_brace.ensures.braced c.in-Some.is in
    record { within = omega (arith, x.1); short = c.requires.0.short }

pub returns-in-Some : goal.returns-in-Some
returns-in-Some c =
    let x = brace_inside _ _ _ _ _ c.closing_brace.ensures.braced c.in-Some.is in
    let p = c.requires.1 in
    record {
      is = union_row _ _ _ _ _ _ c.is_at.ensures c.if-is_at.true _ c.closing_brace.ensures.value _ _ _ c.in-Some.is c.body_row.ensures.is;
      moved = onward_passed _ _ _ _ _ _ c.body_row.ensures.moved refl (record { onward = omega (arith, x.0, p.onward); inside = omega (arith, x.1) });
      counted = c.body_row.ensures.counted;
    }

pub returns-in-None : goal.returns-in-None
returns-in-None c =
    record {
      is = union_open _ _ _ _ _ _ c.is_at.ensures c.if-is_at.true _ c.closing_brace.ensures.value c.in-None.is;
      moved = record { onward = omega arith; inside = omega (arith, c.requires.1.onward, c.requires.1.inside) };
      counted = refl;
    }

pub returns : goal.returns
returns c =
    record {
      is = union_none _ _ _ _ _ _ c.is_at.ensures c.if-is_at.false;
      moved = record { onward = omega arith; inside = omega (arith, c.requires.1.onward, c.requires.1.inside) };
      counted = refl;
    }
