-- `pruner::move_symbols`: one symbol more each turn.
use Prim.Native.Nat.{◌+◌}
use mathlib.Core.Path.{◌≡◌}
use native.Mathlib.Omega.{arith}
use Rattle.tables.proofs.Rows.{row_below}
use Rattle.tables.specs.Layout.{symbols, width}
use Rattle.pruner.proofs.Symbols.{moved_none, moved_more}
use Rattle.pruner.proofs.move_symbols.Goals as goal

pub loop-k-init : goal.loop-k-init
loop-k-init c = moved_none c.args.i1.now c.args.i7.now c.args.from c.args.to c.args.t9.now

pub move_symbol-requires : goal.move_symbol-requires
move_symbol-requires c =
    let a = c.args in
    let b = row_below (width symbols) (a.from + c.loop-k.k) (a.from + a.n) (omega (arith, c.loop-k-test.true)) in
    (omega (arith, c.requires.0), omega (arith, c.loop-k.auto.t9, c.requires.1))

pub loop-k-preserved : goal.loop-k-preserved
loop-k-preserved c =
    let a = c.args in
    moved_more a.i1.now a.i7.now a.from a.to c.loop-k.k a.t9.now c.loop-k.t9 c.loop-k.invariant _ c.move_symbol.ensures

pub returns : goal.returns
returns c =
    let e : c.loop-k.k ≡ c.args.n = omega arith in
    rw e at c.loop-k.invariant
