-- `blocks::get_bytes`: the first `j` bytes are read, the others as they were.
use Prim.Native.Nat.{◌+◌}
use mathlib.Core.Path.{◌≡◌}
use native.Mathlib.Omega.{arith}
use lib.ListN.{length}
use Rattle.blocks.specs.Blocks.{content_of}
use Rattle.blocks.proofs.Laws.{place_in, byte_is, of_length, slice_more, slice_none}
use Rattle.blocks.proofs.get_bytes.Goals as goal

pub loop-j-init : goal.loop-j-init
loop-j-init c = slice_none (content_of c.args.s.now) c.args.text.now c.args.i

pub bounds-s-k : goal.bounds-s-k
bounds-s-k c = omega (arith, c.content_at-k.ensures, place_in (c.args.i + c.loop-j.j) (length c.args.s.now) (omega arith))

pub loop-j-preserved : goal.loop-j-preserved
loop-j-preserved c =
    let a = c.args in
    slice_more (content_of a.s.now) c.loop-j.text a.text.now a.i c.loop-j.j _ (omega arith) (rw (of_length a.s.now) (omega arith)) c.loop-j.invariant (byte_is a.s.now (a.i + c.loop-j.j) _ (omega arith) c.content_at-k.ensures)

pub returns : goal.returns
returns c =
    let e : c.loop-j.j ≡ c.args.n = omega arith in
    rw e at c.loop-j.invariant
