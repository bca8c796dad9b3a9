-- `blocks::get_numbers`: the first `j` cells are read, the others as they were.
use Prim.Native.Nat.{◌+◌, ◌*◌}
use mathlib.Core.Path.{◌≡◌}
use native.Mathlib.Omega.{arith}
use lib.ListN.{length}
use Rattle.blocks.specs.Blocks.{content_of}
use Rattle.blocks.proofs.Laws.{place_four, number_of_lem, numbers_more, numbers_none}
use Rattle.blocks.proofs.get_numbers.Goals as goal

pub loop-j-init : goal.loop-j-init
loop-j-init c = numbers_none (content_of c.args.s.now) c.args.t.now c.args.i

pub number_at-requires : goal.number_at-requires
number_at-requires c =
    omega (arith, c.content_at.ensures, place_four (c.args.i + 4 * c.loop-j.j) (length c.args.s.now) (omega arith) (omega arith))

pub loop-j-preserved : goal.loop-j-preserved
loop-j-preserved c =
    let a = c.args in
    let v = number_of_lem a.s.now (a.i + 4 * c.loop-j.j) _ _ (omega arith) (omega arith) c.content_at.ensures c.number_at.ensures in
    numbers_more (content_of a.s.now) c.loop-j.t a.t.now a.i c.loop-j.j _ (omega arith) c.loop-j.invariant v

pub returns : goal.returns
returns c =
    let e : c.loop-j.j ≡ c.args.n = omega arith in
    rw e at c.loop-j.invariant
