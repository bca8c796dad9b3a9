-- `values::epp_value`: soundness, the count, then the text.
use Rattle.values.proofs.Laws.{value_unsound, value_past, value_text}
use Rattle.values.proofs.epp_value.Goals as goal

pub returns-then-not-sound : goal.returns-then-not-sound
returns-then-not-sound c = value_unsound _ _ _ _ _ _ _ _ c.sound.ensures c.if-not-sound.true-raw _ c.zero.ensures

pub returns-then-rows_of-row : goal.returns-then-rows_of-row
returns-then-rows_of-row c =
    value_past _ _ _ _ _ _ _ _ c.sound.ensures c.if-not-sound.false-raw _ c.rows_of.ensures c.if-rows_of-row.true _ c.zero-then-rows_of-row.ensures

pub returns : goal.returns
returns c =
    value_text _ _ _ _ _ _ _ _ c.sound.ensures c.if-not-sound.false-raw _ c.rows_of.ensures c.if-rows_of-row.false _ c.text_of-t.ensures.is _ c.write_text.ensures
