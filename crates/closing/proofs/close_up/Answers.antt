use Prim.Native.Nat.{◌≤◌, ◌*◌}
use mathlib.Core.Path.{◌≡◌, ◌∙◌, ap}
use lib.ListN.{length}
use native.Mathlib.Nat.{mul-le-mul_right}
use Rattle.tables.proofs.Rows.{row_below}
use Rattle.closing.specs.Close.{by_bit, Shut}
use Rattle.closing.proofs.Laws.{shut_none, shut_step, shut_end, zero_length}
use native.Mathlib.Omega.{arith}
use Rattle.closing.proofs.close_up.Goals as goal

pub loop-r-init : goal.loop-r-init
loop-r-init c = shut_none (by_bit c.args.keep.now c.args.base) c.args.w c.args.t.now

pub keep_row-m-requires : goal.keep_row-m-requires
keep_row-m-requires c =
    let a = c.args in
    (c.loop-r.invariant.low, omega (arith, c.loop-r.invariant.size, row_below a.w c.loop-r.r a.n c.loop-r-test.true, c.requires), omega arith)

pub loop-r-preserved : goal.loop-r-preserved
loop-r-preserved c =
    let a = c.args in
    let b = row_below a.w c.loop-r.r a.n c.loop-r-test.true in
    shut_step (by_bit a.keep.now a.base) a.w a.t.now c.loop-r.r c.loop-r.m c.loop-r.t c.loop-r.invariant c.test_bit-stays.result c.test_bit-stays.ensures (omega (arith, c.requires)) (record { count = c.keep_row-m.result; cells = c.keep_row-m.new.t }) c.keep_row-m.ensures

pub overflow_cast-m : goal.overflow_cast-m
overflow_cast-m c = omega (arith, c.loop-r.invariant.low)

pub overflow_mul-m : goal.overflow_mul-m
overflow_mul-m c =
    let l : c.loop-r.m ≤ c.args.n = omega (arith, c.loop-r.invariant.low) in
    omega (arith, mul-le-mul_right c.args.w l, c.requires)

pub zero_from-requires : goal.zero_from-requires
zero_from-requires c =
    let l : c.loop-r.m ≤ c.args.n = omega (arith, c.loop-r.invariant.low) in
    omega (arith, c.loop-r.invariant.size, mul-le-mul_right c.args.w l, c.requires)

pub shape_of-t : goal.shape_of-t
shape_of-t c =
    let a = c.args in
    let l : c.loop-r.m ≤ c.args.n = omega (arith, c.loop-r.invariant.low) in
    let h : c.loop-r.m * a.w ≤ length c.loop-r.t = omega (arith, c.loop-r.invariant.size, mul-le-mul_right a.w l, c.requires) in
    ap length c.zero_from.ensures ∙ (zero_length (c.loop-r.m * a.w) c.loop-r.t h ∙ c.loop-r.invariant.size)

pub returns : goal.returns
returns c =
    let a = c.args in
    let e : c.loop-r.r ≡ a.n = omega arith in
    let x : Shut (by_bit a.keep.now a.base) a.w a.t.now a.n c.loop-r.m c.loop-r.t = rw e at c.loop-r.invariant in
    rw c.zero_from.ensures (shut_end (by_bit a.keep.now a.base) a.w a.t.now a.n c.loop-r.m c.loop-r.t x c.requires.0)
