-- `catalogue::first_short`: the first of the tables that are left is that of all.
use mathlib.Core.Path.{refl}
use native.Mathlib.Omega.{arith}
use Rattle.catalogue.proofs.Laws.{short_on, short_here, short_none}
use Rattle.catalogue.proofs.first_short.Goals as goal

pub loop-k-init : goal.loop-k-init
loop-k-init c = refl

pub returns-then-rooms-i : goal.returns-then-rooms-i
returns-then-rooms-i c =
    let a = c.args in
    short_here a.c a.p a.rooms.n c.loop-k.k _ c.loop-k.invariant _ _ c.loop-k-test.true c.cells_at.ensures.value c.if-rooms-i.true c.table_number.ensures

pub loop-k-preserved : goal.loop-k-preserved
loop-k-preserved c =
    let a = c.args in
    short_on a.c a.p a.rooms.n c.loop-k.k _ c.loop-k.invariant _ c.loop-k-test.true c.cells_at.ensures.value c.if-rooms-i.false

pub returns : goal.returns
returns c =
    let a = c.args in
    short_none a.c a.p a.rooms.n c.loop-k.k _ c.loop-k.invariant (omega arith)
