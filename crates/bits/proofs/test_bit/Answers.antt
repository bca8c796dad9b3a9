use Prim.Native.Nat.{◌^◌, ◌%◌, ◌/◌}
use native.Mathlib.Omega.{arith}
use lib.Bits.{and_mask}
use lib.ListN.{get_or}
use Rattle.bits.specs.Bits.{bit}
use Rattle.bits.proofs.Bits.{bit_past}
use borrow.Author.Rules.{rules}
use Rattle.bits.proofs.test_bit.Goals as goal

pub overflow_cast-s : goal.overflow_cast-s
overflow_cast-s c = search rules

pub returns-then-w-i : goal.returns-then-w-i
returns-then-w-i c = rw (bit_past c.args.w.now c.args.k (omega arith))

pub offset_bounds-w-i : goal.offset_bounds-w-i
offset_bounds-w-i c = search rules

pub bounds-w-i : goal.bounds-w-i
bounds-w-i c = search rules

pub overflow_shr-result : goal.overflow_shr-result
overflow_shr-result c = search rules

pub returns : goal.returns
unfolding bit
returns c = rw (and_mask (get_or c.args.w.now (c.args.k / 32) 0 / 2 ^ (c.args.k % 32)) 1)
