-- `staying::mark_implicit`: no row is a token, or declaration by declaration.
use mathlib.Core.Path.{◌≡◌}
use native.Mathlib.Omega.{arith}
use Rattle.reach.specs.Reach.{named}
use Rattle.reach.proofs.Laws.{fits_on}
use Rattle.staying.proofs.Laws.{implicit_other, implicit_none, implicit_more}
use Rattle.staying.proofs.mark_implicit.Goals as goal

pub returns-then-z-ne2 : goal.returns-then-z-ne2
returns-then-z-ne2 c =
    let a = c.args in
    implicit_other a.src.now (named a.names.now a.z) a.t4.now a.n a.w.now c.if-z-ne2.true

pub loop-e-init : goal.loop-e-init
loop-e-init c = implicit_none _ _ _ _

pub mark_named-requires : goal.mark_named-requires
mark_named-requires c = (fits_on _ c.args.w.now _ c.loop-e.invariant.size c.requires.0, c.requires.1, c.requires.2)

pub loop-e-preserved : goal.loop-e-preserved
loop-e-preserved c =
    let a = c.args in
    implicit_more a.src.now (named a.names.now a.z) a.t4.now c.loop-e.e _ _ a.w.now c.loop-e.w _ c.if-z-ne2.false c.cell-a.ensures c.cell-b.ensures c.loop-e.invariant c.mark_named.ensures.adds

pub returns : goal.returns
returns c =
    let e : c.loop-e.e ≡ c.args.n = omega arith in
    rw (← e) c.loop-e.invariant
