-- `restoring::fill`: tables and source are filled, and stay where the test holds; or else all is cleared.
use Rattle.std.specs.Prelude.{Ok, Err}
use mathlib.Core.Path.{◌≡◌, sym, ◌∙◌}
use mathlib.Core.Bool.{true, false}
use native.Mathlib.Omega.{arith}
use lib.Seq.{length-take-le}
use Rattle.blocks.specs.Blocks.{content_of}
use Rattle.restoring.specs.declared.RestoringError.TheVariants.{RestoringUnsound}
use Rattle.restoring.specs.Restoring.{Restored, filled_tables, filled_source, cleared_out, filled_from}
use Rattle.restoring.proofs.Laws.{content_rows, stays, goes, cleared_out_lem}
use Rattle.restoring.proofs.fill.Goals as goal

pub fill_tables-requires : goal.fill_tables-requires
fill_tables-requires c = (c.requires.1, content_rows _ _ c.args.h.length _ c.requires.2)

pub fill_source-requires : goal.fill_source-requires
fill_source-requires c = (c.requires.0, omega (arith, c.well_formed), c.requires.2)

-- the source is as long as it was
pub slice_bounds-test_filled-end : goal.slice_bounds-test_filled-end
slice_bounds-test_filled-end c = omega (arith, c.requires.0, c.fill_source.auto.src)

pub slice_bounds-test_filled-end-2 : goal.slice_bounds-test_filled-end-2
slice_bounds-test_filled-end-2 c = sym (length-take-le _ _ (omega (arith, c.requires.0, c.fill_source.auto.src)))

pub test_filled-ok-requires : goal.test_filled-ok-requires
test_filled-ok-requires c = (c.requires.4, c.requires.5)

pub shape_of-src-then-ok : goal.shape_of-src-then-ok
shape_of-src-then-ok c = c.fill_source.auto.src

pub shape_of-t1-then-ok : goal.shape_of-t1-then-ok
shape_of-t1-then-ok c = c.fill_tables.auto.t1

pub shape_of-t2-then-ok : goal.shape_of-t2-then-ok
shape_of-t2-then-ok c = c.fill_tables.auto.t2

pub shape_of-t3-then-ok : goal.shape_of-t3-then-ok
shape_of-t3-then-ok c = c.fill_tables.auto.t3

pub shape_of-t4-then-ok : goal.shape_of-t4-then-ok
shape_of-t4-then-ok c = c.fill_tables.auto.t4

pub shape_of-t5-then-ok : goal.shape_of-t5-then-ok
shape_of-t5-then-ok c = c.fill_tables.auto.t5

pub shape_of-t6-then-ok : goal.shape_of-t6-then-ok
shape_of-t6-then-ok c = c.fill_tables.auto.t6

pub shape_of-t7-then-ok : goal.shape_of-t7-then-ok
shape_of-t7-then-ok c = c.fill_tables.auto.t7

pub shape_of-t8-then-ok : goal.shape_of-t8-then-ok
shape_of-t8-then-ok c = c.fill_tables.auto.t8

pub shape_of-t9-then-ok : goal.shape_of-t9-then-ok
shape_of-t9-then-ok c = c.fill_tables.auto.t9

pub shape_of-t10-then-ok : goal.shape_of-t10-then-ok
shape_of-t10-then-ok c = c.fill_tables.auto.t10

pub shape_of-i1-then-ok : goal.shape_of-i1-then-ok
shape_of-i1-then-ok c = c.test_filled-ok.auto.i1

pub shape_of-i7-then-ok : goal.shape_of-i7-then-ok
shape_of-i7-then-ok c = c.test_filled-ok.auto.i7

pub shape_of-t15-then-ok : goal.shape_of-t15-then-ok
shape_of-t15-then-ok c = c.fill_tables.auto.t15

pub shape_of-t16-then-ok : goal.shape_of-t16-then-ok
shape_of-t16-then-ok c = c.fill_tables.auto.t16

pub shape_of-t17-then-ok : goal.shape_of-t17-then-ok
shape_of-t17-then-ok c = c.fill_tables.auto.t17

pub returns-then-ok : goal.returns-then-ok
returns-then-ok c =
    (let it : c.test_filled-ok.result ≡ true → record { answer = Ok tt; head = ((c.args.h)); source = ((c.fill_source.new.src)); tables = ((record { t1 = c.fill_tables.new.t1; t2 = c.fill_tables.new.t2; t3 = c.fill_tables.new.t3; t4 = c.fill_tables.new.t4; t5 = c.fill_tables.new.t5; t6 = c.fill_tables.new.t6; t7 = c.fill_tables.new.t7; t8 = c.fill_tables.new.t8; t9 = c.fill_tables.new.t9; t10 = c.fill_tables.new.t10; t15 = c.fill_tables.new.t15; t16 = c.fill_tables.new.t16; t17 = c.fill_tables.new.t17 })); indexes = ((record { tokens = c.test_filled-ok.new.i1; rules = c.test_filled-ok.new.i7 })) } ≡ filled_from ((content_of c.args.s.now)) ((c.args.h)) ((c.args.src.now)) ((let x = c.args in
    record { t1 = x.t1.now; t2 = x.t2.now; t3 = x.t3.now; t4 = x.t4.now; t5 = x.t5.now; t6 = x.t6.now; t7 = x.t7.now; t8 = x.t8.now; t9 = x.t9.now; t10 = x.t10.now; t15 = x.t15.now; t16 = x.t16.now; t17 = x.t17.now })) ((record { tokens = c.args.i1.now; rules = c.args.i7.now })) = λ e. stays ((content_of c.args.s.now)) ((c.args.h)) ((c.args.src.now)) ((let x = c.args in
    record { t1 = x.t1.now; t2 = x.t2.now; t3 = x.t3.now; t4 = x.t4.now; t5 = x.t5.now; t6 = x.t6.now; t7 = x.t7.now; t8 = x.t8.now; t9 = x.t9.now; t10 = x.t10.now; t15 = x.t15.now; t16 = x.t16.now; t17 = x.t17.now })) ((record { tokens = c.args.i1.now; rules = c.args.i7.now })) ((c.fill_source.new.src)) ((record { t1 = c.fill_tables.new.t1; t2 = c.fill_tables.new.t2; t3 = c.fill_tables.new.t3; t4 = c.fill_tables.new.t4; t5 = c.fill_tables.new.t5; t6 = c.fill_tables.new.t6; t7 = c.fill_tables.new.t7; t8 = c.fill_tables.new.t8; t9 = c.fill_tables.new.t9; t10 = c.fill_tables.new.t10; t15 = c.fill_tables.new.t15; t16 = c.fill_tables.new.t16; t17 = c.fill_tables.new.t17 })) c.test_filled-ok.result ((record { tokens = c.test_filled-ok.new.i1; rules = c.test_filled-ok.new.i7 })) ((let it : ((record { t1 = c.fill_tables.new.t1; t2 = c.fill_tables.new.t2; t3 = c.fill_tables.new.t3; t4 = c.fill_tables.new.t4; t5 = c.fill_tables.new.t5; t6 = c.fill_tables.new.t6; t7 = c.fill_tables.new.t7; t8 = c.fill_tables.new.t8; t9 = c.fill_tables.new.t9; t10 = c.fill_tables.new.t10; t15 = c.fill_tables.new.t15; t16 = c.fill_tables.new.t16; t17 = c.fill_tables.new.t17 })) ≡ filled_tables ((content_of c.args.s.now)) ((c.args.h)).counts ((c.args.h)).posix ((let x = c.args in
    record { t1 = x.t1.now; t2 = x.t2.now; t3 = x.t3.now; t4 = x.t4.now; t5 = x.t5.now; t6 = x.t6.now; t7 = x.t7.now; t8 = x.t8.now; t9 = x.t9.now; t10 = x.t10.now; t15 = x.t15.now; t16 = x.t16.now; t17 = x.t17.now })) = c.fill_tables.ensures in it)) ((let it : ((c.fill_source.new.src)) ≡ filled_source ((content_of c.args.s.now)) ((c.args.h)).counts ((c.args.h)).posix ((c.args.h)).length ((c.args.src.now)) = c.fill_source.ensures in it)) ((c.test_filled-ok.ensures)) e in it) c.if-ok.true

pub shape_of-src : goal.shape_of-src
shape_of-src c = c.clear_all.auto.src ∙ c.fill_source.auto.src

pub shape_of-t1 : goal.shape_of-t1
shape_of-t1 c = c.clear_all.auto.t1 ∙ c.fill_tables.auto.t1

pub shape_of-t2 : goal.shape_of-t2
shape_of-t2 c = c.clear_all.auto.t2 ∙ c.fill_tables.auto.t2

pub shape_of-t3 : goal.shape_of-t3
shape_of-t3 c = c.clear_all.auto.t3 ∙ c.fill_tables.auto.t3

pub shape_of-t4 : goal.shape_of-t4
shape_of-t4 c = c.clear_all.auto.t4 ∙ c.fill_tables.auto.t4

pub shape_of-t5 : goal.shape_of-t5
shape_of-t5 c = c.clear_all.auto.t5 ∙ c.fill_tables.auto.t5

pub shape_of-t6 : goal.shape_of-t6
shape_of-t6 c = c.clear_all.auto.t6 ∙ c.fill_tables.auto.t6

pub shape_of-t7 : goal.shape_of-t7
shape_of-t7 c = c.clear_all.auto.t7 ∙ c.fill_tables.auto.t7

pub shape_of-t8 : goal.shape_of-t8
shape_of-t8 c = c.clear_all.auto.t8 ∙ c.fill_tables.auto.t8

pub shape_of-t9 : goal.shape_of-t9
shape_of-t9 c = c.clear_all.auto.t9 ∙ c.fill_tables.auto.t9

pub shape_of-t10 : goal.shape_of-t10
shape_of-t10 c = c.clear_all.auto.t10 ∙ c.fill_tables.auto.t10

pub shape_of-i1 : goal.shape_of-i1
shape_of-i1 c = c.clear_all.auto.i1 ∙ c.test_filled-ok.auto.i1

pub shape_of-i7 : goal.shape_of-i7
shape_of-i7 c = c.clear_all.auto.i7 ∙ c.test_filled-ok.auto.i7

pub shape_of-t15 : goal.shape_of-t15
shape_of-t15 c = c.clear_all.auto.t15 ∙ c.fill_tables.auto.t15

pub shape_of-t16 : goal.shape_of-t16
shape_of-t16 c = c.clear_all.auto.t16 ∙ c.fill_tables.auto.t16

pub shape_of-t17 : goal.shape_of-t17
shape_of-t17 c = c.clear_all.auto.t17 ∙ c.fill_tables.auto.t17

pub returns : goal.returns
returns c =
    (let it : c.test_filled-ok.result ≡ false → (o : Restored) → o ≡ cleared_out (Err RestoringUnsound) ((c.fill_source.new.src)) ((record { t1 = c.fill_tables.new.t1; t2 = c.fill_tables.new.t2; t3 = c.fill_tables.new.t3; t4 = c.fill_tables.new.t4; t5 = c.fill_tables.new.t5; t6 = c.fill_tables.new.t6; t7 = c.fill_tables.new.t7; t8 = c.fill_tables.new.t8; t9 = c.fill_tables.new.t9; t10 = c.fill_tables.new.t10; t15 = c.fill_tables.new.t15; t16 = c.fill_tables.new.t16; t17 = c.fill_tables.new.t17 })) ((record { tokens = c.test_filled-ok.new.i1; rules = c.test_filled-ok.new.i7 })) → o ≡ filled_from ((content_of c.args.s.now)) ((c.args.h)) ((c.args.src.now)) ((let x = c.args in
    record { t1 = x.t1.now; t2 = x.t2.now; t3 = x.t3.now; t4 = x.t4.now; t5 = x.t5.now; t6 = x.t6.now; t7 = x.t7.now; t8 = x.t8.now; t9 = x.t9.now; t10 = x.t10.now; t15 = x.t15.now; t16 = x.t16.now; t17 = x.t17.now })) ((record { tokens = c.args.i1.now; rules = c.args.i7.now })) = λ e o f. goes ((content_of c.args.s.now)) ((c.args.h)) ((c.args.src.now)) ((let x = c.args in
    record { t1 = x.t1.now; t2 = x.t2.now; t3 = x.t3.now; t4 = x.t4.now; t5 = x.t5.now; t6 = x.t6.now; t7 = x.t7.now; t8 = x.t8.now; t9 = x.t9.now; t10 = x.t10.now; t15 = x.t15.now; t16 = x.t16.now; t17 = x.t17.now })) ((record { tokens = c.args.i1.now; rules = c.args.i7.now })) ((c.fill_source.new.src)) ((record { t1 = c.fill_tables.new.t1; t2 = c.fill_tables.new.t2; t3 = c.fill_tables.new.t3; t4 = c.fill_tables.new.t4; t5 = c.fill_tables.new.t5; t6 = c.fill_tables.new.t6; t7 = c.fill_tables.new.t7; t8 = c.fill_tables.new.t8; t9 = c.fill_tables.new.t9; t10 = c.fill_tables.new.t10; t15 = c.fill_tables.new.t15; t16 = c.fill_tables.new.t16; t17 = c.fill_tables.new.t17 })) c.test_filled-ok.result ((record { tokens = c.test_filled-ok.new.i1; rules = c.test_filled-ok.new.i7 })) ((let it : ((record { t1 = c.fill_tables.new.t1; t2 = c.fill_tables.new.t2; t3 = c.fill_tables.new.t3; t4 = c.fill_tables.new.t4; t5 = c.fill_tables.new.t5; t6 = c.fill_tables.new.t6; t7 = c.fill_tables.new.t7; t8 = c.fill_tables.new.t8; t9 = c.fill_tables.new.t9; t10 = c.fill_tables.new.t10; t15 = c.fill_tables.new.t15; t16 = c.fill_tables.new.t16; t17 = c.fill_tables.new.t17 })) ≡ filled_tables ((content_of c.args.s.now)) ((c.args.h)).counts ((c.args.h)).posix ((let x = c.args in
    record { t1 = x.t1.now; t2 = x.t2.now; t3 = x.t3.now; t4 = x.t4.now; t5 = x.t5.now; t6 = x.t6.now; t7 = x.t7.now; t8 = x.t8.now; t9 = x.t9.now; t10 = x.t10.now; t15 = x.t15.now; t16 = x.t16.now; t17 = x.t17.now })) = c.fill_tables.ensures in it)) ((let it : ((c.fill_source.new.src)) ≡ filled_source ((content_of c.args.s.now)) ((c.args.h)).counts ((c.args.h)).posix ((c.args.h)).length ((c.args.src.now)) = c.fill_source.ensures in it)) ((c.test_filled-ok.ensures)) e o f in it) c.if-ok.false (record {
      answer = c.refused.result.answer;
      head = (let x = c.refused.result in
          record { kind = x.kind; counts = x.counts; posix = x.posix; length = x.length; singles = x.singles });
      source = (c.clear_all.new.src);
      tables = (record { t1 = c.clear_all.new.t1; t2 = c.clear_all.new.t2; t3 = c.clear_all.new.t3; t4 = c.clear_all.new.t4; t5 = c.clear_all.new.t5; t6 = c.clear_all.new.t6; t7 = c.clear_all.new.t7; t8 = c.clear_all.new.t8; t9 = c.clear_all.new.t9; t10 = c.clear_all.new.t10; t15 = c.clear_all.new.t15; t16 = c.clear_all.new.t16; t17 = c.clear_all.new.t17 });
      indexes = (record { tokens = c.clear_all.new.i1; rules = c.clear_all.new.i7 });
    }) ((cleared_out_lem ((c.fill_source.new.src)) ((record { t1 = c.fill_tables.new.t1; t2 = c.fill_tables.new.t2; t3 = c.fill_tables.new.t3; t4 = c.fill_tables.new.t4; t5 = c.fill_tables.new.t5; t6 = c.fill_tables.new.t6; t7 = c.fill_tables.new.t7; t8 = c.fill_tables.new.t8; t9 = c.fill_tables.new.t9; t10 = c.fill_tables.new.t10; t15 = c.fill_tables.new.t15; t16 = c.fill_tables.new.t16; t17 = c.fill_tables.new.t17 })) ((record { tokens = c.test_filled-ok.new.i1; rules = c.test_filled-ok.new.i7 })) ((c.clear_all.new.src)) ((record { t1 = c.clear_all.new.t1; t2 = c.clear_all.new.t2; t3 = c.clear_all.new.t3; t4 = c.clear_all.new.t4; t5 = c.clear_all.new.t5; t6 = c.clear_all.new.t6; t7 = c.clear_all.new.t7; t8 = c.clear_all.new.t8; t9 = c.clear_all.new.t9; t10 = c.clear_all.new.t10; t15 = c.clear_all.new.t15; t16 = c.clear_all.new.t16; t17 = c.clear_all.new.t17 })) ((record { tokens = c.clear_all.new.i1; rules = c.clear_all.new.i7 })) c.clear_all.ensures (Err RestoringUnsound) c.refused.result.answer ((let x = c.refused.result in
    record { kind = x.kind; counts = x.counts; posix = x.posix; length = x.length; singles = x.singles })) c.refused.ensures.0 c.refused.ensures.1))
