-- `blocks::zero_bytes`: the first `j` bytes are zero.
use Prim.Native.Nat.{◌+◌}
use mathlib.Core.Path.{◌≡◌, sym, ◌∙◌}
use native.Mathlib.Omega.{arith}
use lib.ListN.{length}
use Rattle.blocks.specs.Blocks.{content_of}
use Rattle.blocks.proofs.Laws.{place_in, byte_is, zero_on, zero_not, zero_none}
use Rattle.blocks.proofs.zero_bytes.Goals as goal

pub loop-j-init : goal.loop-j-init
loop-j-init c = zero_none (content_of c.args.s.now) c.args.i

pub bounds-s-k : goal.bounds-s-k
bounds-s-k c = omega (arith, c.content_at-k.ensures, place_in (c.args.i + c.loop-j.j) (length c.args.s.now) (omega arith))

pub returns-then-s-k-ne0 : goal.returns-then-s-k-ne0
returns-then-s-k-ne0 c =
    let a = c.args in
    zero_not (content_of a.s.now) a.i c.loop-j.j a.n (omega arith) (λ e. c.if-s-k-ne0.true (byte_is a.s.now (a.i + c.loop-j.j) _ (omega arith) c.content_at-k.ensures ∙ e))

pub loop-j-preserved : goal.loop-j-preserved
loop-j-preserved c =
    let a = c.args in
    zero_on (content_of a.s.now) a.i c.loop-j.j c.loop-j.invariant (sym (byte_is a.s.now (a.i + c.loop-j.j) _ (omega arith) c.content_at-k.ensures) ∙ c.if-s-k-ne0.false)

pub returns : goal.returns
returns c =
    let e : c.loop-j.j ≡ c.args.n = omega arith in
    sym (rw e at c.loop-j.invariant)
