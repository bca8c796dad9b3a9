-- `pruner::close_productions`: productions that stay are laid in front.
use Prim.Native.Nat.{◌*◌}
use mathlib.Core.Path.{◌≡◌, ◌∙◌, ap}
use native.Mathlib.Omega.{arith}
use lib.ListN.{length}
use Rattle.tables.specs.Layout.{productions}
use Rattle.sound.specs.Test.{count_at}
use Rattle.closing.proofs.Laws.{zero_length}
use Rattle.pruner.proofs.Productions.{ProductionsTo, productions_none, productions_asks, productions_step, productions_fit, productions_end}
use Rattle.pruner.proofs.close_productions.Goals as goal

pub loop-p-init : goal.loop-p-init
loop-p-init c =
    let a = c.args in
    productions_none a.ws.now a.t8.now

pub keep_production-k-requires : goal.keep_production-k-requires
keep_production-k-requires c =
    let a = c.args in
    let r = productions_asks a.c a.ws.now a.i7.now a.t8.now c.requires.0 c.requires.1 c.requires.2 c.requires.3 c.loop-p.p c.loop-p.m c.loop-p.e c.loop-p.t8 c.loop-p.invariant (omega (arith, c.loop-p-test.true, c.rows_of-n.ensures)) in
    (r.0, omega (arith, c.loop-p-test.true), r.1, r.2, r.3)

pub loop-p-preserved : goal.loop-p-preserved
loop-p-preserved c =
    let a = c.args in
    productions_step a.c a.ws.now a.i7.now a.t8.now c.requires.0 c.requires.1 c.requires.2 c.requires.3 c.loop-p.p c.loop-p.m c.loop-p.e c.loop-p.t8 c.loop-p.invariant (omega (arith, c.loop-p-test.true, c.rows_of-n.ensures)) (record { rows = c.keep_production-k.result.rows; symbols = c.keep_production-k.result.symbols; cells = c.keep_production-k.new.t8 }) c.keep_production-k.ensures

pub overflow_cast-m : goal.overflow_cast-m
overflow_cast-m c =
    omega (
      arith,
      (let a = c.args in
          productions_fit a.c a.ws.now a.i7.now a.t8.now c.requires.0 c.requires.1 c.requires.2 c.requires.3 c.loop-p.p c.loop-p.m c.loop-p.e c.loop-p.t8 c.loop-p.invariant (omega (arith, c.loop-p.auto.p-end, c.rows_of-n.ensures))),
    )

pub overflow_mul-m : goal.overflow_mul-m
overflow_mul-m c =
    omega (
      arith,
      (let a = c.args in
          productions_fit a.c a.ws.now a.i7.now a.t8.now c.requires.0 c.requires.1 c.requires.2 c.requires.3 c.loop-p.p c.loop-p.m c.loop-p.e c.loop-p.t8 c.loop-p.invariant (omega (arith, c.loop-p.auto.p-end, c.rows_of-n.ensures))),
    )

pub zero_from-requires : goal.zero_from-requires
zero_from-requires c =
    (let a = c.args in
    productions_fit a.c a.ws.now a.i7.now a.t8.now c.requires.0 c.requires.1 c.requires.2 c.requires.3 c.loop-p.p c.loop-p.m c.loop-p.e c.loop-p.t8 c.loop-p.invariant (omega (arith, c.loop-p.auto.p-end, c.rows_of-n.ensures)))

pub shape_of-t8 : goal.shape_of-t8
shape_of-t8 c =
    ap length c.zero_from.ensures ∙ (zero_length (c.loop-p.m * 13) c.loop-p.t8 ((let a = c.args in
    productions_fit a.c a.ws.now a.i7.now a.t8.now c.requires.0 c.requires.1 c.requires.2 c.requires.3 c.loop-p.p c.loop-p.m c.loop-p.e c.loop-p.t8 c.loop-p.invariant (omega (arith, c.loop-p.auto.p-end, c.rows_of-n.ensures)))) ∙ c.loop-p.invariant.laid.size)

pub returns : goal.returns
returns c =
    let a = c.args in
    let e : c.loop-p.p ≡ count_at a.c productions = omega (arith, c.loop-p.auto.p-end, c.loop-p-test.false, c.rows_of-n.ensures) in
    let x : ProductionsTo a.ws.now a.t8.now (count_at a.c productions) c.loop-p.m c.loop-p.e c.loop-p.t8 = rw e at c.loop-p.invariant in
    rw c.zero_from.ensures (productions_end a.c a.ws.now a.t8.now c.requires.0 c.loop-p.m c.loop-p.e c.loop-p.t8 x)
