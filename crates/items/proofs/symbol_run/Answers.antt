-- `items::symbol_run`: each symbol that is read is a turn.
use mathlib.Core.Path.{refl, ◌∙◌}
use native.Mathlib.Omega.{arith}
use Rattle.items.proofs.Runs.{run_start, run_more, run_stop, read_is, unread_is, read_held, unread_held}
use Rattle.items.proofs.symbol_run.Goals as goal

pub loop-j-init : goal.loop-j-init
loop-j-init c = (refl, refl, refl, omega arith, c.requires.0.within, c.requires.1, run_start _ _ _ _ _ _ _ _)

pub quick_symbol-requires : goal.quick_symbol-requires
quick_symbol-requires c = (record { within = c.loop-j.invariant.4; short = c.requires.0.short }, c.loop-j.invariant.5)

pub overflow_add-run : goal.overflow_add-run
overflow_add-run c = omega (arith, (read_is _ _ _ _ _ _ _ _ _ _ c.quick_symbol.ensures.is _ _ _ c.in-Some.is).counted)

pub loop-j-smaller : goal.loop-j-smaller
loop-j-smaller c =
    let x = read_is _ _ _ _ _ _ _ _ _ _ c.quick_symbol.ensures.is _ _ _ c.in-Some.is in
    omega (arith, x.further, x.inside)

pub loop-j-preserved : goal.loop-j-preserved
loop-j-preserved c =
    let e = c.in-Some.is in
    let x = read_is _ _ _ _ _ _ _ _ _ _ c.quick_symbol.ensures.is _ _ _ e in (
      c.quick_symbol.auto.t1 ∙ c.loop-j.invariant.0,
      c.quick_symbol.auto.t9 ∙ c.loop-j.invariant.1,
      c.quick_symbol.auto.i1 ∙ c.loop-j.invariant.2,
      omega (arith, x.further, c.loop-j.invariant.3),
      x.inside,
      read_held _ _ _ _ _ _ _ _ e c.quick_symbol.ensures.indexed,
      run_more _ _ _ _ _ _ _ _ _ _ _ _ _ _ c.loop-j.invariant.6 _ _ _ _ _ x,
    )

pub shape_of-t1-in-None : goal.shape_of-t1-in-None
shape_of-t1-in-None c = c.quick_symbol.auto.t1 ∙ c.loop-j.invariant.0

pub shape_of-t9-in-None : goal.shape_of-t9-in-None
shape_of-t9-in-None c = c.quick_symbol.auto.t9 ∙ c.loop-j.invariant.1

pub shape_of-i1-in-None : goal.shape_of-i1-in-None
shape_of-i1-in-None c = c.quick_symbol.auto.i1 ∙ c.loop-j.invariant.2

pub returns-in-None : goal.returns-in-None
returns-in-None c =
    let e = c.in-None.is in
    record {
      is = run_stop _ _ _ _ _ _ _ _ _ _ _ _ _ _ c.loop-j.invariant.6 _ _ (unread_is _ _ _ _ _ _ _ _ _ _ c.quick_symbol.ensures.is e);
      moved = record { onward = c.loop-j.invariant.3; inside = c.loop-j.invariant.4 };
      indexed = unread_held _ _ _ _ _ e c.quick_symbol.ensures.indexed;
    }
