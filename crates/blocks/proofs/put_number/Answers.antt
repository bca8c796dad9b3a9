-- `blocks::put_number`.
use native.Mathlib.Omega.{arith}
use lib.ListN.{length-set}
use Rattle.blocks.proofs.Laws.{number_put}
use Rattle.blocks.proofs.put_number.Goals as goal

pub bounds-out-k-2 : goal.bounds-out-k-2
bounds-out-k-2 c = simp length-set (omega arith)

pub bounds-out-k-3 : goal.bounds-out-k-3
bounds-out-k-3 c = simp length-set (omega arith)

pub bounds-out-k-4 : goal.bounds-out-k-4
bounds-out-k-4 c = simp length-set (omega arith)

pub returns : goal.returns
returns c = number_put c.args.out.now c.args.k c.args.v
