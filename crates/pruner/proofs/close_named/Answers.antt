-- `pruner::close_named`: rows that stay close up, a row being read before it is moved.
use Prim.Native.Nat.{◌≤◌, ◌*◌}
use mathlib.Core.Path.{◌≡◌, ◌∙◌, ap}
use native.Mathlib.Nat.{mul-le-mul_right}
use native.Mathlib.Omega.{arith}
use lib.ListN.{length}
use Rattle.tables.proofs.Rows.{row_below}
use Rattle.closing.proofs.Laws.{shut_none, shut_step, shut_end, zero_length}
use Rattle.closing.specs.Close.{Shut}
use Rattle.pruning.specs.Pruned.{row_stays}
use Rattle.pruner.proofs.Laws.{row_stays_lem}
use Rattle.pruner.proofs.close_named.Goals as goal

pub loop-r-init : goal.loop-r-init
loop-r-init c =
    let a = c.args in
    shut_none (row_stays a.src.now a.c a.t1.now a.ws.now a.w a.k a.t.now) a.w a.t.now

pub name_stays-stays-requires : goal.name_stays-stays-requires
name_stays-stays-requires c = c.requires.1

pub keep_row-m-requires : goal.keep_row-m-requires
keep_row-m-requires c =
    let a = c.args in
    let b = row_below a.w c.loop-r.r a.n c.loop-r-test.true in
    (c.loop-r.invariant.low, omega (arith, c.loop-r.invariant.size, c.requires.0), omega (arith, c.loop-r-test.true))

pub loop-r-preserved : goal.loop-r-preserved
loop-r-preserved c =
    let a = c.args in
    let s = row_stays a.src.now a.c a.t1.now a.ws.now a.w a.k a.t.now in
    let b = row_below a.w c.loop-r.r a.n c.loop-r-test.true in
    shut_step s a.w a.t.now c.loop-r.r c.loop-r.m c.loop-r.t c.loop-r.invariant c.name_stays-stays.result (row_stays_lem a.src.now a.c a.t1.now a.ws.now a.w a.k a.t.now c.loop-r.r c.loop-r.m c.loop-r.t c.loop-r.invariant _ _ c.cell-a.ensures c.cell-b.ensures _ c.name_stays-stays.ensures) (omega (arith, c.requires.0)) (record { count = c.keep_row-m.result; cells = c.keep_row-m.new.t }) c.keep_row-m.ensures

pub overflow_cast-m : goal.overflow_cast-m
overflow_cast-m c = omega (arith, c.loop-r.invariant.low)

pub overflow_mul-m : goal.overflow_mul-m
overflow_mul-m c = omega (arith, mul-le-mul_right c.args.w c.loop-r.invariant.low, mul-le-mul_right c.args.w c.loop-r.auto.r-end, c.requires.0)

pub zero_from-requires : goal.zero_from-requires
zero_from-requires c =
    omega (arith, c.loop-r.invariant.size, mul-le-mul_right c.args.w c.loop-r.invariant.low, mul-le-mul_right c.args.w c.loop-r.auto.r-end, c.requires.0)

pub shape_of-t : goal.shape_of-t
shape_of-t c =
    let a = c.args in
    let h : c.loop-r.m * a.w ≤ length c.loop-r.t = omega (arith, c.loop-r.invariant.size, mul-le-mul_right a.w c.loop-r.invariant.low, mul-le-mul_right a.w c.loop-r.auto.r-end, c.requires.0) in
    ap length c.zero_from.ensures ∙ (zero_length (c.loop-r.m * a.w) c.loop-r.t h ∙ c.loop-r.invariant.size)

pub returns : goal.returns
returns c =
    let a = c.args in
    let s = row_stays a.src.now a.c a.t1.now a.ws.now a.w a.k a.t.now in
    let e : c.loop-r.r ≡ a.n = omega (arith, c.loop-r.auto.r-end, c.loop-r-test.false) in
    let x : Shut s a.w a.t.now a.n c.loop-r.m c.loop-r.t = rw e at c.loop-r.invariant in
    rw c.zero_from.ensures (shut_end s a.w a.t.now a.n c.loop-r.m c.loop-r.t x c.requires.0)
