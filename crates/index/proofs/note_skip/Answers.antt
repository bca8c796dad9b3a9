-- `index::note_skip`.
use Rattle.std.proofs.Common.{arith}
use Rattle.index.proofs.Skips.{noted_up, noted_end, noted_start}
use Rattle.index.proofs.note_skip.Goals as goal

pub returns-then-from-z : goal.returns-then-from-z
returns-then-from-z c ix r e l g S =
    let a = c.args in
    c.raise_skips.ensures ix r S (noted_up ix r a.m a.from a.z e l g _ _ c.block_from-k.ensures (omega arith) c.if-from-z.true)

pub returns : goal.returns
returns c ix r e l g S =
    let a = c.args in
    let T = c.raise_skips-2.ensures ix r S (noted_end ix r a.m a.from a.z e l g _ _ c.block_from-k.ensures (omega arith) c.if-from-z.false) in
    c.raise_skips-3.ensures ix r T (noted_start ix r a.m a.from a.z e l g _ (omega arith) c.if-from-z.false)
