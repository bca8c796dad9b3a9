-- `index::raise_skips`.
use Rattle.std.proofs.Common.{arith}
use Rattle.index.proofs.Skips.{taken_part}
use Rattle.index.proofs.raise_skips.Goals as goal

pub returns-then-e-k : goal.returns-then-e-k
returns-then-e-k c ix r S T = S

pub returns-then-k-known : goal.returns-then-k-known
returns-then-k-known c ix r S T =
    c.raise_skip-then-k-known.ensures ix r (c.raise_skip.ensures ix r S T) (taken_part ix r _ _ _ _ T (omega (arith, c.if-k-known.true)) (omega arith))

pub returns-else-k-known : goal.returns-else-k-known
returns-else-k-known c = c.raise_skip.ensures
