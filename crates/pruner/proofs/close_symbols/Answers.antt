-- `pruner::close_symbols`: the symbols of productions that stay are laid in front.
use Prim.Native.Nat.{◌*◌}
use mathlib.Core.Path.{◌≡◌, ◌∙◌, ap}
use native.Mathlib.Omega.{arith}
use lib.ListN.{length}
use Rattle.tables.specs.Layout.{productions}
use Rattle.sound.specs.Test.{count_at}
use Rattle.closing.proofs.Laws.{zero_length}
use Rattle.pruner.proofs.Symbols.{SymbolsTo, symbols_none, symbols_asks, symbols_step_lem, symbols_fit, symbols_end}
use Rattle.pruner.proofs.close_symbols.Goals as goal

pub loop-p-init : goal.loop-p-init
loop-p-init c =
    let a = c.args in
    λ d q e. symbols_none d a.ws.now a.t8.now a.t9.now

pub keep_symbols-m-requires : goal.keep_symbols-m-requires
keep_symbols-m-requires c =
    let a = c.args in
    symbols_asks a.c a.ws.now a.i1.now a.i7.now a.t8.now a.t9.now c.requires c.loop-p.p c.loop-p.m c.loop-p.t9 (c.loop-p.invariant a.c c.requires c.rows_of-n.ensures) (omega (arith, c.loop-p-test.true, c.rows_of-n.ensures))

pub loop-p-preserved : goal.loop-p-preserved
loop-p-preserved c =
    let a = c.args in
    λ d q e. symbols_step_lem d a.ws.now a.i1.now a.i7.now a.t8.now a.t9.now q c.loop-p.p c.loop-p.m c.loop-p.t9 (c.loop-p.invariant d q e) (omega (arith, c.loop-p-test.true, e)) (record { count = c.keep_symbols-m.result; cells = c.keep_symbols-m.new.t9 }) c.keep_symbols-m.ensures

pub overflow_cast-m : goal.overflow_cast-m
overflow_cast-m c =
    omega (
      arith,
      (let a = c.args in
          symbols_fit a.c a.ws.now a.i1.now a.i7.now a.t8.now a.t9.now c.requires c.loop-p.p c.loop-p.m c.loop-p.t9 (c.loop-p.invariant a.c c.requires c.rows_of-n.ensures) (omega (arith, c.loop-p.auto.p-end, c.rows_of-n.ensures))),
    )

pub overflow_mul-m : goal.overflow_mul-m
overflow_mul-m c =
    omega (
      arith,
      (let a = c.args in
          symbols_fit a.c a.ws.now a.i1.now a.i7.now a.t8.now a.t9.now c.requires c.loop-p.p c.loop-p.m c.loop-p.t9 (c.loop-p.invariant a.c c.requires c.rows_of-n.ensures) (omega (arith, c.loop-p.auto.p-end, c.rows_of-n.ensures))),
    )

pub zero_from-requires : goal.zero_from-requires
zero_from-requires c =
    (let a = c.args in
    symbols_fit a.c a.ws.now a.i1.now a.i7.now a.t8.now a.t9.now c.requires c.loop-p.p c.loop-p.m c.loop-p.t9 (c.loop-p.invariant a.c c.requires c.rows_of-n.ensures) (omega (arith, c.loop-p.auto.p-end, c.rows_of-n.ensures)))

pub shape_of-t9 : goal.shape_of-t9
shape_of-t9 c =
    ap length c.zero_from.ensures ∙ (zero_length (c.loop-p.m * 4) c.loop-p.t9 ((let a = c.args in
    symbols_fit a.c a.ws.now a.i1.now a.i7.now a.t8.now a.t9.now c.requires c.loop-p.p c.loop-p.m c.loop-p.t9 (c.loop-p.invariant a.c c.requires c.rows_of-n.ensures) (omega (arith, c.loop-p.auto.p-end, c.rows_of-n.ensures)))) ∙ c.loop-p.auto.t9)

pub returns : goal.returns
returns c =
    let a = c.args in
    let e : c.loop-p.p ≡ count_at a.c productions = omega (arith, c.loop-p.auto.p-end, c.loop-p-test.false, c.rows_of-n.ensures) in
    let x : SymbolsTo a.c a.ws.now a.t8.now a.t9.now (count_at a.c productions) c.loop-p.m c.loop-p.t9 = rw e at (c.loop-p.invariant a.c c.requires c.rows_of-n.ensures) in
    rw c.zero_from.ensures (symbols_end a.c a.ws.now a.i1.now a.i7.now a.t8.now a.t9.now c.requires c.loop-p.m c.loop-p.t9 x)
