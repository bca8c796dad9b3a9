-- `sound::table_sound`: its tests in their order.
use mathlib.Core.Path.{◌∙◌}
use native.Mathlib.Omega.{arith}
use Rattle.tables.proofs.Laws.{product_fits}
use Rattle.sound.proofs.Laws.{table_short, table_dirty, table_row, table_names}
use Rattle.sound.proofs.table_sound.Goals as goal

pub overflow_mul-end : goal.overflow_mul-end
overflow_mul-end c = omega (arith, product_fits c.args.n c.args.w (omega arith) (omega arith))

pub returns-then-t-end : goal.returns-then-t-end
returns-then-t-end c = table_short _ _ _ _ _ _ c.requires (omega arith) c.if-t-end.true

pub returns-then-not-zeros_from : goal.returns-then-not-zeros_from
returns-then-not-zeros_from c = table_dirty _ _ _ _ _ _ c.requires (omega arith) c.if-t-end.false _ c.zeros_from.ensures c.if-not-zeros_from.true-raw

pub returns-then-not-rows_sound : goal.returns-then-not-rows_sound
returns-then-not-rows_sound c =
    table_row _ _ _ _ _ _ c.requires (omega arith) c.if-t-end.false _ c.zeros_from.ensures c.if-not-zeros_from.false-raw _ c.rows_sound.ensures c.if-not-rows_sound.true-raw

pub returns-then-k : goal.returns-then-k
returns-then-k c =
    c.names_differ.ensures ∙ table_names _ _ _ _ _ _ c.requires (omega arith) c.if-t-end.false _ c.zeros_from.ensures c.if-not-zeros_from.false-raw _ c.rows_sound.ensures c.if-not-rows_sound.false-raw _ c.if-k.true

pub returns : goal.returns
returns c =
    table_names _ _ _ _ _ _ c.requires (omega arith) c.if-t-end.false _ c.zeros_from.ensures c.if-not-zeros_from.false-raw _ c.rows_sound.ensures c.if-not-rows_sound.false-raw _ c.if-k.false
