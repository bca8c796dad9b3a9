-- `walks::is_fitting`: the numbers first, and then the tables.
use native.Mathlib.Omega.{arith}
use Rattle.walks.proofs.Laws.{fitting_says}
use Rattle.walks.proofs.is_fitting.Goals as goal

pub returns : goal.returns
returns c =
    fitting_says c.args.src.now c.args.c c.args.g ((let a = c.args in
    record { t1 = a.t1.now; t2 = a.t2.now; t3 = a.t3.now; t4 = a.t4.now; t5 = a.t5.now; t6 = a.t6.now; t7 = a.t7.now; t8 = a.t8.now; t9 = a.t9.now; t10 = a.t10.now })) ((record { tokens = c.args.i1.now; rules = c.args.i7.now })) c.args.work.now c.args.at c.sound.result (omega (arith, c.if-rules-at.false, c.rows_of-rules.ensures)) (omega (arith, c.if-tokens-at.false, c.rows_of-tokens.ensures)) (omega (arith, c.if-work-words_for.false, c.words_for.ensures, c.words_for-2.ensures, c.rows_of-rules.ensures, c.rows_of-tokens.ensures)) c.sound.ensures
