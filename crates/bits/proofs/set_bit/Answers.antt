use native.Mathlib.Omega.{arith}
use Rattle.bits.proofs.Bits.{set_is, set_past}
use borrow.Author.Rules.{rules}
use Rattle.bits.proofs.set_bit.Goals as goal

pub overflow_cast-s : goal.overflow_cast-s
overflow_cast-s c = search rules

pub offset_bounds-w-i : goal.offset_bounds-w-i
offset_bounds-w-i c = search rules

pub bounds-w-i : goal.bounds-w-i
bounds-w-i c = search rules

pub overflow_shl-w : goal.overflow_shl-w
overflow_shl-w c = search rules

pub offset_bounds-w-i-then-i-w : goal.offset_bounds-w-i-then-i-w
offset_bounds-w-i-then-i-w c = search rules

pub bounds-w-i-then-i-w : goal.bounds-w-i-then-i-w
bounds-w-i-then-i-w c = search rules

pub shape_of-w : goal.shape_of-w
shape_of-w c = search rules

pub returns-then-i-w : goal.returns-then-i-w
returns-then-i-w c = set_is c.args.w.now c.args.k

pub returns-else-i-w : goal.returns-else-i-w
returns-else-i-w c = set_past c.args.w.now c.args.k (omega arith)
