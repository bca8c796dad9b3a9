-- `blocks::first_fault`: the first `k` blocks have no fault.
use Rattle.std.specs.Prelude.{Err}
use Prim.Native.Nat.{◌/◌}
use mathlib.Core.Path.{◌≡◌, sym, ◌∙◌}
use native.Mathlib.Omega.{arith}
use borrow.Author.Rules.{rules}
use lib.ListN.{length}
use Rattle.blocks.proofs.Laws.{first_on, first_err, first_none}
use Rattle.blocks.proofs.first_fault.Goals as goal

pub loop-k-init : goal.loop-k-init
loop-k-init c = first_none c.args.s.now

pub returns-in_err-block_fault : goal.returns-in_err-block_fault
returns-in_err-block_fault c =
    let x = c.in_err-block_fault.field-0.0 in
    let e : c.from_residual.result ≡ Err x = search rules in
    e ∙ first_err c.args.s.now c.loop-k.k _ c.loop-k.invariant c.block_fault.ensures _ x (omega arith) (search rules)

pub loop-k-preserved : goal.loop-k-preserved
loop-k-preserved c = first_on c.args.s.now c.loop-k.k _ c.loop-k.invariant c.block_fault.ensures (search rules)

pub returns : goal.returns
returns c =
    let e : c.loop-k.k ≡ length c.args.s.now / 512 = omega arith in
    sym (rw e at c.loop-k.invariant)
