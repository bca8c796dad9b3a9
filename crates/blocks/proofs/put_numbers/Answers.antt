-- `blocks::put_numbers`: what is still to be put into what is there gives the whole.
use Prim.Native.Nat.{◌+◌, ◌*◌}
use mathlib.Core.Path.{◌≡◌}
use native.Mathlib.Omega.{arith}
use lib.ListN.{length}
use Rattle.blocks.proofs.Laws.{place_four, cells_more, cells_done}
use Rattle.blocks.proofs.put_numbers.Goals as goal

pub loop-j-init : goal.loop-j-init
loop-j-init c =
    let e : c.args.i + 4 * 0 ≡ c.args.i = omega arith in
    rw e

pub put_number-requires : goal.put_number-requires
put_number-requires c =
    let a = c.args in
    omega (arith, c.content_at.ensures, place_four (a.i + 4 * c.loop-j.j) (length c.loop-j.out) (omega arith) (omega arith))

pub loop-j-preserved : goal.loop-j-preserved
loop-j-preserved c =
    let a = c.args in
    let e : a.i + 4 * (c.loop-j.j + 1) ≡ a.i + 4 * c.loop-j.j + 4 = omega arith in
    rw e (cells_more c.loop-j.out a.t.now a.n c.loop-j.j (a.i + 4 * c.loop-j.j) _ c.loop-j.invariant _ _ (omega arith) (omega arith) (omega arith) c.content_at.ensures c.put_number.ensures)

pub returns : goal.returns
returns c = cells_done c.loop-j.out c.args.t.now c.args.n c.loop-j.j (c.args.i + 4 * c.loop-j.j) _ c.loop-j.invariant (omega arith) (omega arith)
