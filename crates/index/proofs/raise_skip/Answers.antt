-- `index::raise_skip`.
use Rattle.std.proofs.Common.{arith}
use Rattle.index.proofs.Skips.{skips_raise}
use Rattle.index.proofs.raise_skip.Goals as goal

pub returns-then-skips-k : goal.returns-then-skips-k
returns-then-skips-k c ix r S T = S

pub overflow_cast-skips : goal.overflow_cast-skips
overflow_cast-skips c = omega (arith, c.slice_known-1.given c.args.k)

pub returns-then-e-skips : goal.returns-then-e-skips
returns-then-e-skips c ix r S T = S

pub returns-then-e-lt65536 : goal.returns-then-e-lt65536
returns-then-e-lt65536 c ix r S T = skips_raise ix r _ S _ _ c.if-skips-k.false T

pub returns-else-e-lt65536 : goal.returns-else-e-lt65536
returns-else-e-lt65536 c ix r S T = S
