-- `blocks::number_at`: each byte is below 256, so that no sum wraps.
use Prim.Native.Nat.{◌+◌}
use native.Mathlib.Omega.{arith}
use Rattle.blocks.proofs.Laws.{number_is}
use Rattle.blocks.proofs.number_at.Goals as goal

pub overflow_mul-result : goal.overflow_mul-result
overflow_mul-result c = omega (arith, c.shared_slice_known-3-1.given (c.args.k + 1))

pub overflow_add-result : goal.overflow_add-result
overflow_add-result c = omega (arith, c.shared_slice_known-3-1.given c.args.k, c.shared_slice_known-3-1.given (c.args.k + 1))

pub overflow_mul-result-2 : goal.overflow_mul-result-2
overflow_mul-result-2 c = omega (arith, c.shared_slice_known-4-1.given (c.args.k + 2))

pub overflow_add-result-2 : goal.overflow_add-result-2
overflow_add-result-2 c =
    omega (arith, c.shared_slice_known-4-1.given c.args.k, c.shared_slice_known-4-1.given (c.args.k + 1), c.shared_slice_known-4-1.given (c.args.k + 2))

pub overflow_mul-result-3 : goal.overflow_mul-result-3
overflow_mul-result-3 c = omega (arith, c.shared_slice_known-5-1.given (c.args.k + 3))

pub overflow_add-result-3 : goal.overflow_add-result-3
overflow_add-result-3 c =
    omega (arith, c.shared_slice_known-5-1.given c.args.k, c.shared_slice_known-5-1.given (c.args.k + 1), c.shared_slice_known-5-1.given (c.args.k + 2), c.shared_slice_known-5-1.given (c.args.k + 3))

pub returns : goal.returns
returns c = number_is c.args.s.now c.args.k _ _ _ _ c.wide.ensures c.wide-2.ensures c.wide-3.ensures c.wide-4.ensures
