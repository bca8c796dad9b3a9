-- `sound::sound`: its tests in their order.
use mathlib.Core.Path.{sym, ◌∙◌}
use borrow.Author.Tests.{not-false}
use Rattle.sound.proofs.Indexes.{indexes_told}
use Rattle.sound.proofs.Known.{tables_single}
use Rattle.sound.proofs.Laws.{sound_long, sound_table, sound_index, sound_known, sound_rest}
use Rattle.sound.proofs.sound.Goals as goal

pub returns-then-src-gt65536 : goal.returns-then-src-gt65536
returns-then-src-gt65536 c = sound_long _ _ _ _ _ c.if-src-gt65536.true

pub returns-then-not-indexes_sound : goal.returns-then-not-indexes_sound
returns-then-not-indexes_sound c =
    sound_index c.args.src.now c.args.c ((record { t1 = c.args.t1.now; t2 = c.args.t2.now; t3 = c.args.t3.now; t4 = c.args.t4.now; t5 = c.args.t5.now; t6 = c.args.t6.now; t7 = c.args.t7.now; t8 = c.args.t8.now; t9 = c.args.t9.now; t10 = c.args.t10.now })) c.args.g ((record { tokens = c.args.i1.now; rules = c.args.i7.now })) c.if-src-gt65536.false _ c.indexes_sound.ensures c.if-not-indexes_sound.true-raw

pub returns-then-not-tables_sound : goal.returns-then-not-tables_sound
returns-then-not-tables_sound c =
    sound_table c.args.src.now c.args.c ((record { t1 = c.args.t1.now; t2 = c.args.t2.now; t3 = c.args.t3.now; t4 = c.args.t4.now; t5 = c.args.t5.now; t6 = c.args.t6.now; t7 = c.args.t7.now; t8 = c.args.t8.now; t9 = c.args.t9.now; t10 = c.args.t10.now })) c.args.g ((record { tokens = c.args.i1.now; rules = c.args.i7.now })) c.if-src-gt65536.false _ c.indexes_sound.ensures c.if-not-indexes_sound.false-raw _ c.tables_sound.ensures c.if-not-tables_sound.true-raw

pub symbols_known-requires : goal.symbols_known-requires
symbols_known-requires c =
    let I = indexes_told _ _ _ _ _ _ _ c.indexes_sound.ensures c.if-not-indexes_sound.false-raw in
    let one = tables_single c.args.src.now c.args.c ((record { t1 = c.args.t1.now; t2 = c.args.t2.now; t3 = c.args.t3.now; t4 = c.args.t4.now; t5 = c.args.t5.now; t6 = c.args.t6.now; t7 = c.args.t7.now; t8 = c.args.t8.now; t9 = c.args.t9.now; t10 = c.args.t10.now })) (sym c.tables_sound.ensures ∙ not-false _ c.if-not-tables_sound.false-raw) in
    ((I.0, one.0), (I.1, one.1))

pub returns-then-not-symbols_known : goal.returns-then-not-symbols_known
returns-then-not-symbols_known c =
    sound_known c.args.src.now c.args.c ((record { t1 = c.args.t1.now; t2 = c.args.t2.now; t3 = c.args.t3.now; t4 = c.args.t4.now; t5 = c.args.t5.now; t6 = c.args.t6.now; t7 = c.args.t7.now; t8 = c.args.t8.now; t9 = c.args.t9.now; t10 = c.args.t10.now })) c.args.g ((record { tokens = c.args.i1.now; rules = c.args.i7.now })) c.if-src-gt65536.false _ c.indexes_sound.ensures c.if-not-indexes_sound.false-raw _ c.tables_sound.ensures c.if-not-tables_sound.false-raw _ c.symbols_known.ensures c.if-not-symbols_known.true-raw

pub returns : goal.returns
returns c =
    sound_rest c.args.src.now c.args.c ((record { t1 = c.args.t1.now; t2 = c.args.t2.now; t3 = c.args.t3.now; t4 = c.args.t4.now; t5 = c.args.t5.now; t6 = c.args.t6.now; t7 = c.args.t7.now; t8 = c.args.t8.now; t9 = c.args.t9.now; t10 = c.args.t10.now })) c.args.g ((record { tokens = c.args.i1.now; rules = c.args.i7.now })) c.if-src-gt65536.false _ c.indexes_sound.ensures c.if-not-indexes_sound.false-raw _ c.tables_sound.ensures c.if-not-tables_sound.false-raw _ c.symbols_known.ensures c.if-not-symbols_known.false-raw _ _ _ _ c.ranges_sound.ensures c.rows_of.ensures c.rows_of-2.ensures c.singles_sound.ensures
