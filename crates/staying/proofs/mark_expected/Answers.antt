-- `staying::mark_expected`: declaration by declaration.
use mathlib.Core.Path.{◌≡◌}
use native.Mathlib.Omega.{arith}
use Rattle.reach.specs.Reach.{named}
use Rattle.reach.proofs.Laws.{fits_on}
use Rattle.staying.proofs.Laws.{expected_none, expected_more}
use Rattle.staying.proofs.mark_expected.Goals as goal

pub loop-e-init : goal.loop-e-init
loop-e-init c =
    let a = c.args in
    expected_none a.src.now (named a.names.now a.z) a.t6.now a.w.now

pub mark_entry-requires : goal.mark_entry-requires
mark_entry-requires c = (fits_on _ c.args.w.now _ c.loop-e.invariant.size c.requires.0, c.requires.1, c.requires.2)

pub loop-e-preserved : goal.loop-e-preserved
loop-e-preserved c =
    let a = c.args in
    expected_more a.src.now (named a.names.now a.z) a.t6.now c.loop-e.e a.w.now c.loop-e.w _ c.loop-e.invariant c.mark_entry.ensures

pub returns : goal.returns
returns c =
    let e : c.loop-e.e ≡ c.args.n = omega arith in
    rw (← e) c.loop-e.invariant
