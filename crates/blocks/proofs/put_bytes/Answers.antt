-- `blocks::put_bytes`: what is still to be put into what is there gives the whole.
use Prim.Native.Nat.{◌+◌}
use native.Mathlib.Omega.{arith}
use lib.ListN.{length}
use Rattle.blocks.proofs.Laws.{place_in, bytes_more, bytes_done, bytes_none}
use Rattle.blocks.proofs.put_bytes.Goals as goal

pub loop-j-init : goal.loop-j-init
loop-j-init c = bytes_none c.args.out.now c.args.text.now c.args.i

pub bounds-out-k : goal.bounds-out-k
bounds-out-k c = omega (arith, c.content_at-k.ensures, place_in (c.args.i + c.loop-j.j) (length c.loop-j.out) (omega arith))

pub loop-j-preserved : goal.loop-j-preserved
loop-j-preserved c = bytes_more c.loop-j.out c.args.text.now c.args.i c.loop-j.j _ c.loop-j.invariant _ (omega arith) c.content_at-k.ensures

pub returns : goal.returns
returns c = bytes_done c.loop-j.out c.args.text.now c.args.i c.loop-j.j _ c.loop-j.invariant (omega arith)
