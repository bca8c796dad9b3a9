-- `blocks::seal`.
use native.Mathlib.Omega.{arith}
use lib.ListN.{length-set}
use Rattle.blocks.proofs.Laws.{seal_is}
use Rattle.blocks.proofs.seal.Goals as goal

pub bounds-out-at-2 : goal.bounds-out-at-2
bounds-out-at-2 c = simp length-set (omega arith)

pub bounds-out-at-3 : goal.bounds-out-at-3
bounds-out-at-3 c = simp length-set (omega arith)

pub bounds-out-at-4 : goal.bounds-out-at-4
bounds-out-at-4 c = simp length-set (omega arith)

pub returns : goal.returns
returns c = seal_is c.args.out.now _ c.args.k _ c.put_number.ensures c.check_sums-c.ensures.0
