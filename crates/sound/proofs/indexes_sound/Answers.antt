-- `sound::indexes_sound`.
use native.Mathlib.Omega.{arith}
use Rattle.sound.proofs.Indexes.{first_wrong, first_right}
use Rattle.sound.proofs.indexes_sound.Goals as goal

pub rows_of-requires : goal.rows_of-requires
rows_of-requires c = tt

pub index_right-requires : goal.index_right-requires
index_right-requires c = omega arith

pub returns-then-not-index_right : goal.returns-then-not-index_right
returns-then-not-index_right c = first_wrong _ _ _ _ _ _ _ c.rows_of.ensures _ c.index_right.ensures c.if-not-index_right.true-raw

pub rows_of-requires-2 : goal.rows_of-requires-2
rows_of-requires-2 c = tt

pub index_right-requires-2 : goal.index_right-requires-2
index_right-requires-2 c = omega arith

pub returns : goal.returns
returns c =
    first_right _ _ _ _ _ _ _ c.rows_of.ensures _ c.index_right.ensures c.if-not-index_right.false-raw _ c.rows_of-2.ensures _ c.index_right-2.ensures
