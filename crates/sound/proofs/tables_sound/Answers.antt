-- `sound::tables_sound`: the tables' tests in their order.
use mathlib.Core.Path.{◌∙◌}
use Rattle.sound.proofs.Laws.{from_start, from_last, first_no, first_yes, table_is}
use Rattle.sound.proofs.tables_sound.Goals as goal

pub returns-then-not-table_sound : goal.returns-then-not-table_sound
returns-then-not-table_sound c =
    first_no _ _ _ _ _ _ ((table_is _ _ _ _ _ _ _ c.table_sound.ensures c.rows_of-rules.ensures c.rows_of.ensures)) c.if-not-table_sound.true-raw ∙ (from_start _ _ _)

pub returns-then-not-table_sound-2 : goal.returns-then-not-table_sound-2
returns-then-not-table_sound-2 c =
    first_no _ _ _ _ _ _ ((table_is _ _ _ _ _ _ _ c.table_sound-2.ensures c.rows_of-rules.ensures c.rows_of-2.ensures)) c.if-not-table_sound-2.true-raw ∙ (first_yes _ _ _ _ _ _ ((table_is _ _ _ _ _ _ _ c.table_sound.ensures c.rows_of-rules.ensures c.rows_of.ensures)) c.if-not-table_sound.false-raw ∙ (from_start _ _ _))

pub returns-then-not-table_sound-3 : goal.returns-then-not-table_sound-3
returns-then-not-table_sound-3 c =
    first_no _ _ _ _ _ _ ((table_is _ _ _ _ _ _ _ c.table_sound-3.ensures c.rows_of-rules.ensures c.rows_of-3.ensures)) c.if-not-table_sound-3.true-raw ∙ (first_yes _ _ _ _ _ _ ((table_is _ _ _ _ _ _ _ c.table_sound-2.ensures c.rows_of-rules.ensures c.rows_of-2.ensures)) c.if-not-table_sound-2.false-raw ∙ (first_yes _ _ _ _ _ _ ((table_is _ _ _ _ _ _ _ c.table_sound.ensures c.rows_of-rules.ensures c.rows_of.ensures)) c.if-not-table_sound.false-raw ∙ (from_start _ _ _)))

pub returns-then-not-table_sound-4 : goal.returns-then-not-table_sound-4
returns-then-not-table_sound-4 c =
    first_no _ _ _ _ _ _ ((table_is _ _ _ _ _ _ _ c.table_sound-4.ensures c.rows_of-rules.ensures c.rows_of-4.ensures)) c.if-not-table_sound-4.true-raw ∙ (first_yes _ _ _ _ _ _ ((table_is _ _ _ _ _ _ _ c.table_sound-3.ensures c.rows_of-rules.ensures c.rows_of-3.ensures)) c.if-not-table_sound-3.false-raw ∙ (first_yes _ _ _ _ _ _ ((table_is _ _ _ _ _ _ _ c.table_sound-2.ensures c.rows_of-rules.ensures c.rows_of-2.ensures)) c.if-not-table_sound-2.false-raw ∙ (first_yes _ _ _ _ _ _ ((table_is _ _ _ _ _ _ _ c.table_sound.ensures c.rows_of-rules.ensures c.rows_of.ensures)) c.if-not-table_sound.false-raw ∙ (from_start _ _ _))))

pub returns-then-not-table_sound-5 : goal.returns-then-not-table_sound-5
returns-then-not-table_sound-5 c =
    first_no _ _ _ _ _ _ ((table_is _ _ _ _ _ _ _ c.table_sound-5.ensures c.rows_of-rules.ensures c.rows_of-5.ensures)) c.if-not-table_sound-5.true-raw ∙ (first_yes _ _ _ _ _ _ ((table_is _ _ _ _ _ _ _ c.table_sound-4.ensures c.rows_of-rules.ensures c.rows_of-4.ensures)) c.if-not-table_sound-4.false-raw ∙ (first_yes _ _ _ _ _ _ ((table_is _ _ _ _ _ _ _ c.table_sound-3.ensures c.rows_of-rules.ensures c.rows_of-3.ensures)) c.if-not-table_sound-3.false-raw ∙ (first_yes _ _ _ _ _ _ ((table_is _ _ _ _ _ _ _ c.table_sound-2.ensures c.rows_of-rules.ensures c.rows_of-2.ensures)) c.if-not-table_sound-2.false-raw ∙ (first_yes _ _ _ _ _ _ ((table_is _ _ _ _ _ _ _ c.table_sound.ensures c.rows_of-rules.ensures c.rows_of.ensures)) c.if-not-table_sound.false-raw ∙ (from_start _ _ _)))))

pub returns-then-not-table_sound-6 : goal.returns-then-not-table_sound-6
returns-then-not-table_sound-6 c =
    first_no _ _ _ _ _ _ ((table_is _ _ _ _ _ _ _ c.table_sound-6.ensures c.rows_of-rules.ensures c.rows_of-6.ensures)) c.if-not-table_sound-6.true-raw ∙ (first_yes _ _ _ _ _ _ ((table_is _ _ _ _ _ _ _ c.table_sound-5.ensures c.rows_of-rules.ensures c.rows_of-5.ensures)) c.if-not-table_sound-5.false-raw ∙ (first_yes _ _ _ _ _ _ ((table_is _ _ _ _ _ _ _ c.table_sound-4.ensures c.rows_of-rules.ensures c.rows_of-4.ensures)) c.if-not-table_sound-4.false-raw ∙ (first_yes _ _ _ _ _ _ ((table_is _ _ _ _ _ _ _ c.table_sound-3.ensures c.rows_of-rules.ensures c.rows_of-3.ensures)) c.if-not-table_sound-3.false-raw ∙ (first_yes _ _ _ _ _ _ ((table_is _ _ _ _ _ _ _ c.table_sound-2.ensures c.rows_of-rules.ensures c.rows_of-2.ensures)) c.if-not-table_sound-2.false-raw ∙ (first_yes _ _ _ _ _ _ ((table_is _ _ _ _ _ _ _ c.table_sound.ensures c.rows_of-rules.ensures c.rows_of.ensures)) c.if-not-table_sound.false-raw ∙ (from_start _ _ _))))))

pub returns-then-not-table_sound-7 : goal.returns-then-not-table_sound-7
returns-then-not-table_sound-7 c =
    first_no _ _ _ _ _ _ ((table_is _ _ _ _ _ _ _ c.table_sound-7.ensures c.rows_of-rules.ensures c.rows_of-rules.ensures)) c.if-not-table_sound-7.true-raw ∙ (first_yes _ _ _ _ _ _ ((table_is _ _ _ _ _ _ _ c.table_sound-6.ensures c.rows_of-rules.ensures c.rows_of-6.ensures)) c.if-not-table_sound-6.false-raw ∙ (first_yes _ _ _ _ _ _ ((table_is _ _ _ _ _ _ _ c.table_sound-5.ensures c.rows_of-rules.ensures c.rows_of-5.ensures)) c.if-not-table_sound-5.false-raw ∙ (first_yes _ _ _ _ _ _ ((table_is _ _ _ _ _ _ _ c.table_sound-4.ensures c.rows_of-rules.ensures c.rows_of-4.ensures)) c.if-not-table_sound-4.false-raw ∙ (first_yes _ _ _ _ _ _ ((table_is _ _ _ _ _ _ _ c.table_sound-3.ensures c.rows_of-rules.ensures c.rows_of-3.ensures)) c.if-not-table_sound-3.false-raw ∙ (first_yes _ _ _ _ _ _ ((table_is _ _ _ _ _ _ _ c.table_sound-2.ensures c.rows_of-rules.ensures c.rows_of-2.ensures)) c.if-not-table_sound-2.false-raw ∙ (first_yes _ _ _ _ _ _ ((table_is _ _ _ _ _ _ _ c.table_sound.ensures c.rows_of-rules.ensures c.rows_of.ensures)) c.if-not-table_sound.false-raw ∙ (from_start _ _ _)))))))

pub returns-then-not-table_sound-8 : goal.returns-then-not-table_sound-8
returns-then-not-table_sound-8 c =
    first_no _ _ _ _ _ _ ((table_is _ _ _ _ _ _ _ c.table_sound-8.ensures c.rows_of-rules.ensures c.rows_of-7.ensures)) c.if-not-table_sound-8.true-raw ∙ (first_yes _ _ _ _ _ _ ((table_is _ _ _ _ _ _ _ c.table_sound-7.ensures c.rows_of-rules.ensures c.rows_of-rules.ensures)) c.if-not-table_sound-7.false-raw ∙ (first_yes _ _ _ _ _ _ ((table_is _ _ _ _ _ _ _ c.table_sound-6.ensures c.rows_of-rules.ensures c.rows_of-6.ensures)) c.if-not-table_sound-6.false-raw ∙ (first_yes _ _ _ _ _ _ ((table_is _ _ _ _ _ _ _ c.table_sound-5.ensures c.rows_of-rules.ensures c.rows_of-5.ensures)) c.if-not-table_sound-5.false-raw ∙ (first_yes _ _ _ _ _ _ ((table_is _ _ _ _ _ _ _ c.table_sound-4.ensures c.rows_of-rules.ensures c.rows_of-4.ensures)) c.if-not-table_sound-4.false-raw ∙ (first_yes _ _ _ _ _ _ ((table_is _ _ _ _ _ _ _ c.table_sound-3.ensures c.rows_of-rules.ensures c.rows_of-3.ensures)) c.if-not-table_sound-3.false-raw ∙ (first_yes _ _ _ _ _ _ ((table_is _ _ _ _ _ _ _ c.table_sound-2.ensures c.rows_of-rules.ensures c.rows_of-2.ensures)) c.if-not-table_sound-2.false-raw ∙ (first_yes _ _ _ _ _ _ ((table_is _ _ _ _ _ _ _ c.table_sound.ensures c.rows_of-rules.ensures c.rows_of.ensures)) c.if-not-table_sound.false-raw ∙ (from_start _ _ _))))))))

pub returns-then-not-table_sound-9 : goal.returns-then-not-table_sound-9
returns-then-not-table_sound-9 c =
    first_no _ _ _ _ _ _ ((table_is _ _ _ _ _ _ _ c.table_sound-9.ensures c.rows_of-rules.ensures c.rows_of-8.ensures)) c.if-not-table_sound-9.true-raw ∙ (first_yes _ _ _ _ _ _ ((table_is _ _ _ _ _ _ _ c.table_sound-8.ensures c.rows_of-rules.ensures c.rows_of-7.ensures)) c.if-not-table_sound-8.false-raw ∙ (first_yes _ _ _ _ _ _ ((table_is _ _ _ _ _ _ _ c.table_sound-7.ensures c.rows_of-rules.ensures c.rows_of-rules.ensures)) c.if-not-table_sound-7.false-raw ∙ (first_yes _ _ _ _ _ _ ((table_is _ _ _ _ _ _ _ c.table_sound-6.ensures c.rows_of-rules.ensures c.rows_of-6.ensures)) c.if-not-table_sound-6.false-raw ∙ (first_yes _ _ _ _ _ _ ((table_is _ _ _ _ _ _ _ c.table_sound-5.ensures c.rows_of-rules.ensures c.rows_of-5.ensures)) c.if-not-table_sound-5.false-raw ∙ (first_yes _ _ _ _ _ _ ((table_is _ _ _ _ _ _ _ c.table_sound-4.ensures c.rows_of-rules.ensures c.rows_of-4.ensures)) c.if-not-table_sound-4.false-raw ∙ (first_yes _ _ _ _ _ _ ((table_is _ _ _ _ _ _ _ c.table_sound-3.ensures c.rows_of-rules.ensures c.rows_of-3.ensures)) c.if-not-table_sound-3.false-raw ∙ (first_yes _ _ _ _ _ _ ((table_is _ _ _ _ _ _ _ c.table_sound-2.ensures c.rows_of-rules.ensures c.rows_of-2.ensures)) c.if-not-table_sound-2.false-raw ∙ (first_yes _ _ _ _ _ _ ((table_is _ _ _ _ _ _ _ c.table_sound.ensures c.rows_of-rules.ensures c.rows_of.ensures)) c.if-not-table_sound.false-raw ∙ (from_start _ _ _)))))))))

pub returns : goal.returns
returns c =
    (table_is _ _ _ _ _ _ _ c.table_sound-10.ensures c.rows_of-rules.ensures c.rows_of-9.ensures) ∙ from_last _ _ _ _ ∙ (first_yes _ _ _ _ _ _ ((table_is _ _ _ _ _ _ _ c.table_sound-9.ensures c.rows_of-rules.ensures c.rows_of-8.ensures)) c.if-not-table_sound-9.false-raw ∙ (first_yes _ _ _ _ _ _ ((table_is _ _ _ _ _ _ _ c.table_sound-8.ensures c.rows_of-rules.ensures c.rows_of-7.ensures)) c.if-not-table_sound-8.false-raw ∙ (first_yes _ _ _ _ _ _ ((table_is _ _ _ _ _ _ _ c.table_sound-7.ensures c.rows_of-rules.ensures c.rows_of-rules.ensures)) c.if-not-table_sound-7.false-raw ∙ (first_yes _ _ _ _ _ _ ((table_is _ _ _ _ _ _ _ c.table_sound-6.ensures c.rows_of-rules.ensures c.rows_of-6.ensures)) c.if-not-table_sound-6.false-raw ∙ (first_yes _ _ _ _ _ _ ((table_is _ _ _ _ _ _ _ c.table_sound-5.ensures c.rows_of-rules.ensures c.rows_of-5.ensures)) c.if-not-table_sound-5.false-raw ∙ (first_yes _ _ _ _ _ _ ((table_is _ _ _ _ _ _ _ c.table_sound-4.ensures c.rows_of-rules.ensures c.rows_of-4.ensures)) c.if-not-table_sound-4.false-raw ∙ (first_yes _ _ _ _ _ _ ((table_is _ _ _ _ _ _ _ c.table_sound-3.ensures c.rows_of-rules.ensures c.rows_of-3.ensures)) c.if-not-table_sound-3.false-raw ∙ (first_yes _ _ _ _ _ _ ((table_is _ _ _ _ _ _ _ c.table_sound-2.ensures c.rows_of-rules.ensures c.rows_of-2.ensures)) c.if-not-table_sound-2.false-raw ∙ (first_yes _ _ _ _ _ _ ((table_is _ _ _ _ _ _ _ c.table_sound.ensures c.rows_of-rules.ensures c.rows_of.ensures)) c.if-not-table_sound.false-raw ∙ (from_start _ _ _))))))))))
