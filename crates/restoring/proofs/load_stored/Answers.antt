-- `restoring::load_stored`: everything is cleared, and what the blocks come to is answered; where they hold a reading, it fits and is filled in.
use Rattle.std.specs.Prelude.{Result, Ok, Err}
use mathlib.Core.Path.{◌≡◌, refl, ◌∙◌}
use Prim.Native.Nat.{◌≤◌}
use lib.ListN.{length}
use Rattle.scan.proofs.Tuples.{err_is}
use Rattle.catalogue.specs.declared.Head.{Head}
use Rattle.catalogue.specs.declared.FindingError.{FindingError}
use Rattle.catalogue.specs.declared.FindingError.TheVariants.{NoWholeBlocks, FaultyNumber, FaultyCheck, Unfilled, WrongSize, NoRoom}
use Rattle.restoring.specs.declared.RestoringError.{RestoringError}
use Rattle.restoring.specs.declared.RestoringError.TheVariants.{NotWhole, BadNumber, BadCheck, BadContent, BadSizes, NoSpace}
use Rattle.restoring.specs.Restoring.{no_head, cleared_out, restored_as, restored}
use Rattle.restoring.proofs.Laws.{cleared_out_lem, restored_as_lem, some_block, fill_fits, restored_filled}
use Rattle.restoring.proofs.load_stored.Goals as goal

pub head_in-requires : goal.head_in-requires
head_in-requires c =
    (let it : c.examine.result ≡ Ok tt → 512 ≤ length ((c.args.s.now)) = λ e. some_block ((c.args.src.now)) ((let x = c.args in
    record { t1 = x.t1.now; t2 = x.t2.now; t3 = x.t3.now; t4 = x.t4.now; t5 = x.t5.now; t6 = x.t6.now; t7 = x.t7.now; t8 = x.t8.now; t9 = x.t9.now; t10 = x.t10.now; t15 = x.t15.now; t16 = x.t16.now; t17 = x.t17.now })) ((record { tokens = c.args.i1.now; rules = c.args.i7.now })) ((c.clear_all.new.src)) ((record { t1 = c.clear_all.new.t1; t2 = c.clear_all.new.t2; t3 = c.clear_all.new.t3; t4 = c.clear_all.new.t4; t5 = c.clear_all.new.t5; t6 = c.clear_all.new.t6; t7 = c.clear_all.new.t7; t8 = c.clear_all.new.t8; t9 = c.clear_all.new.t9; t10 = c.clear_all.new.t10; t15 = c.clear_all.new.t15; t16 = c.clear_all.new.t16; t17 = c.clear_all.new.t17 })) ((record { tokens = c.clear_all.new.i1; rules = c.clear_all.new.i7 })) c.clear_all.ensures ((c.args.s.now)) c.sizes_fit-sized.result c.examine.result c.sizes_fit-sized.ensures c.examine.ensures e in it) c.in-Ok.is

pub fill-requires : goal.fill-requires
fill-requires c =
    fill_fits ((c.args.src.now)) ((let x = c.args in
    record { t1 = x.t1.now; t2 = x.t2.now; t3 = x.t3.now; t4 = x.t4.now; t5 = x.t5.now; t6 = x.t6.now; t7 = x.t7.now; t8 = x.t8.now; t9 = x.t9.now; t10 = x.t10.now; t15 = x.t15.now; t16 = x.t16.now; t17 = x.t17.now })) ((record { tokens = c.args.i1.now; rules = c.args.i7.now })) ((c.clear_all.new.src)) ((record { t1 = c.clear_all.new.t1; t2 = c.clear_all.new.t2; t3 = c.clear_all.new.t3; t4 = c.clear_all.new.t4; t5 = c.clear_all.new.t5; t6 = c.clear_all.new.t6; t7 = c.clear_all.new.t7; t8 = c.clear_all.new.t8; t9 = c.clear_all.new.t9; t10 = c.clear_all.new.t10; t15 = c.clear_all.new.t15; t16 = c.clear_all.new.t16; t17 = c.clear_all.new.t17 })) ((record { tokens = c.clear_all.new.i1; rules = c.clear_all.new.i7 })) c.clear_all.ensures ((c.args.s.now)) _ _ c.sizes_fit-sized.ensures c.examine.ensures c.in-Ok.is _ c.head_in.ensures

pub shape_of-src-in-Ok : goal.shape_of-src-in-Ok
shape_of-src-in-Ok c = c.fill.auto.src ∙ c.clear_all.auto.src

pub shape_of-t1-in-Ok : goal.shape_of-t1-in-Ok
shape_of-t1-in-Ok c = c.fill.auto.t1 ∙ c.clear_all.auto.t1

pub shape_of-t2-in-Ok : goal.shape_of-t2-in-Ok
shape_of-t2-in-Ok c = c.fill.auto.t2 ∙ c.clear_all.auto.t2

pub shape_of-t3-in-Ok : goal.shape_of-t3-in-Ok
shape_of-t3-in-Ok c = c.fill.auto.t3 ∙ c.clear_all.auto.t3

pub shape_of-t4-in-Ok : goal.shape_of-t4-in-Ok
shape_of-t4-in-Ok c = c.fill.auto.t4 ∙ c.clear_all.auto.t4

pub shape_of-t5-in-Ok : goal.shape_of-t5-in-Ok
shape_of-t5-in-Ok c = c.fill.auto.t5 ∙ c.clear_all.auto.t5

pub shape_of-t6-in-Ok : goal.shape_of-t6-in-Ok
shape_of-t6-in-Ok c = c.fill.auto.t6 ∙ c.clear_all.auto.t6

pub shape_of-t7-in-Ok : goal.shape_of-t7-in-Ok
shape_of-t7-in-Ok c = c.fill.auto.t7 ∙ c.clear_all.auto.t7

pub shape_of-t8-in-Ok : goal.shape_of-t8-in-Ok
shape_of-t8-in-Ok c = c.fill.auto.t8 ∙ c.clear_all.auto.t8

pub shape_of-t9-in-Ok : goal.shape_of-t9-in-Ok
shape_of-t9-in-Ok c = c.fill.auto.t9 ∙ c.clear_all.auto.t9

pub shape_of-t10-in-Ok : goal.shape_of-t10-in-Ok
shape_of-t10-in-Ok c = c.fill.auto.t10 ∙ c.clear_all.auto.t10

pub shape_of-i1-in-Ok : goal.shape_of-i1-in-Ok
shape_of-i1-in-Ok c = c.fill.auto.i1 ∙ c.clear_all.auto.i1

pub shape_of-i7-in-Ok : goal.shape_of-i7-in-Ok
shape_of-i7-in-Ok c = c.fill.auto.i7 ∙ c.clear_all.auto.i7

pub shape_of-t15-in-Ok : goal.shape_of-t15-in-Ok
shape_of-t15-in-Ok c = c.fill.auto.t15 ∙ c.clear_all.auto.t15

pub shape_of-t16-in-Ok : goal.shape_of-t16-in-Ok
shape_of-t16-in-Ok c = c.fill.auto.t16 ∙ c.clear_all.auto.t16

pub shape_of-t17-in-Ok : goal.shape_of-t17-in-Ok
shape_of-t17-in-Ok c = c.fill.auto.t17 ∙ c.clear_all.auto.t17

pub returns-in-Ok : goal.returns-in-Ok
returns-in-Ok c =
    restored_filled ((c.args.src.now)) ((let x = c.args in
    record { t1 = x.t1.now; t2 = x.t2.now; t3 = x.t3.now; t4 = x.t4.now; t5 = x.t5.now; t6 = x.t6.now; t7 = x.t7.now; t8 = x.t8.now; t9 = x.t9.now; t10 = x.t10.now; t15 = x.t15.now; t16 = x.t16.now; t17 = x.t17.now })) ((record { tokens = c.args.i1.now; rules = c.args.i7.now })) ((c.clear_all.new.src)) ((record { t1 = c.clear_all.new.t1; t2 = c.clear_all.new.t2; t3 = c.clear_all.new.t3; t4 = c.clear_all.new.t4; t5 = c.clear_all.new.t5; t6 = c.clear_all.new.t6; t7 = c.clear_all.new.t7; t8 = c.clear_all.new.t8; t9 = c.clear_all.new.t9; t10 = c.clear_all.new.t10; t15 = c.clear_all.new.t15; t16 = c.clear_all.new.t16; t17 = c.clear_all.new.t17 })) ((record { tokens = c.clear_all.new.i1; rules = c.clear_all.new.i7 })) c.clear_all.ensures ((c.args.s.now)) _ _ c.sizes_fit-sized.ensures c.examine.ensures c.in-Ok.is _ c.head_in.ensures _ c.fill.ensures

pub shape_of-src-in-Err-NoWholeBlocks : goal.shape_of-src-in-Err-NoWholeBlocks
shape_of-src-in-Err-NoWholeBlocks c = c.clear_all.auto.src

pub shape_of-t1-in-Err-NoWholeBlocks : goal.shape_of-t1-in-Err-NoWholeBlocks
shape_of-t1-in-Err-NoWholeBlocks c = c.clear_all.auto.t1

pub shape_of-t2-in-Err-NoWholeBlocks : goal.shape_of-t2-in-Err-NoWholeBlocks
shape_of-t2-in-Err-NoWholeBlocks c = c.clear_all.auto.t2

pub shape_of-t3-in-Err-NoWholeBlocks : goal.shape_of-t3-in-Err-NoWholeBlocks
shape_of-t3-in-Err-NoWholeBlocks c = c.clear_all.auto.t3

pub shape_of-t4-in-Err-NoWholeBlocks : goal.shape_of-t4-in-Err-NoWholeBlocks
shape_of-t4-in-Err-NoWholeBlocks c = c.clear_all.auto.t4

pub shape_of-t5-in-Err-NoWholeBlocks : goal.shape_of-t5-in-Err-NoWholeBlocks
shape_of-t5-in-Err-NoWholeBlocks c = c.clear_all.auto.t5

pub shape_of-t6-in-Err-NoWholeBlocks : goal.shape_of-t6-in-Err-NoWholeBlocks
shape_of-t6-in-Err-NoWholeBlocks c = c.clear_all.auto.t6

pub shape_of-t7-in-Err-NoWholeBlocks : goal.shape_of-t7-in-Err-NoWholeBlocks
shape_of-t7-in-Err-NoWholeBlocks c = c.clear_all.auto.t7

pub shape_of-t8-in-Err-NoWholeBlocks : goal.shape_of-t8-in-Err-NoWholeBlocks
shape_of-t8-in-Err-NoWholeBlocks c = c.clear_all.auto.t8

pub shape_of-t9-in-Err-NoWholeBlocks : goal.shape_of-t9-in-Err-NoWholeBlocks
shape_of-t9-in-Err-NoWholeBlocks c = c.clear_all.auto.t9

pub shape_of-t10-in-Err-NoWholeBlocks : goal.shape_of-t10-in-Err-NoWholeBlocks
shape_of-t10-in-Err-NoWholeBlocks c = c.clear_all.auto.t10

pub shape_of-i1-in-Err-NoWholeBlocks : goal.shape_of-i1-in-Err-NoWholeBlocks
shape_of-i1-in-Err-NoWholeBlocks c = c.clear_all.auto.i1

pub shape_of-i7-in-Err-NoWholeBlocks : goal.shape_of-i7-in-Err-NoWholeBlocks
shape_of-i7-in-Err-NoWholeBlocks c = c.clear_all.auto.i7

pub shape_of-t15-in-Err-NoWholeBlocks : goal.shape_of-t15-in-Err-NoWholeBlocks
shape_of-t15-in-Err-NoWholeBlocks c = c.clear_all.auto.t15

pub shape_of-t16-in-Err-NoWholeBlocks : goal.shape_of-t16-in-Err-NoWholeBlocks
shape_of-t16-in-Err-NoWholeBlocks c = c.clear_all.auto.t16

pub shape_of-t17-in-Err-NoWholeBlocks : goal.shape_of-t17-in-Err-NoWholeBlocks
shape_of-t17-in-Err-NoWholeBlocks c = c.clear_all.auto.t17

pub returns-in-Err-NoWholeBlocks : goal.returns-in-Err-NoWholeBlocks
returns-in-Err-NoWholeBlocks c =
    (let it : (g : Result (Unit {0}) FindingError) (a b : Result (Unit {0}) RestoringError) (h : Head) → c.examine.result ≡ g → cleared_out a ((c.args.src.now)) ((let x = c.args in
    record { t1 = x.t1.now; t2 = x.t2.now; t3 = x.t3.now; t4 = x.t4.now; t5 = x.t5.now; t6 = x.t6.now; t7 = x.t7.now; t8 = x.t8.now; t9 = x.t9.now; t10 = x.t10.now; t15 = x.t15.now; t16 = x.t16.now; t17 = x.t17.now })) ((record { tokens = c.args.i1.now; rules = c.args.i7.now })) ≡ restored_as g ((c.args.s.now)) ((c.args.src.now)) ((let x = c.args in
    record { t1 = x.t1.now; t2 = x.t2.now; t3 = x.t3.now; t4 = x.t4.now; t5 = x.t5.now; t6 = x.t6.now; t7 = x.t7.now; t8 = x.t8.now; t9 = x.t9.now; t10 = x.t10.now; t15 = x.t15.now; t16 = x.t16.now; t17 = x.t17.now })) ((record { tokens = c.args.i1.now; rules = c.args.i7.now })) → b ≡ a → h ≡ no_head → record { answer = b; head = h; source = ((c.clear_all.new.src)); tables = ((record { t1 = c.clear_all.new.t1; t2 = c.clear_all.new.t2; t3 = c.clear_all.new.t3; t4 = c.clear_all.new.t4; t5 = c.clear_all.new.t5; t6 = c.clear_all.new.t6; t7 = c.clear_all.new.t7; t8 = c.clear_all.new.t8; t9 = c.clear_all.new.t9; t10 = c.clear_all.new.t10; t15 = c.clear_all.new.t15; t16 = c.clear_all.new.t16; t17 = c.clear_all.new.t17 })); indexes = ((record { tokens = c.clear_all.new.i1; rules = c.clear_all.new.i7 })) } ≡ restored ((c.args.s.now)) ((c.args.src.now)) ((let x = c.args in
    record { t1 = x.t1.now; t2 = x.t2.now; t3 = x.t3.now; t4 = x.t4.now; t5 = x.t5.now; t6 = x.t6.now; t7 = x.t7.now; t8 = x.t8.now; t9 = x.t9.now; t10 = x.t10.now; t15 = x.t15.now; t16 = x.t16.now; t17 = x.t17.now })) ((record { tokens = c.args.i1.now; rules = c.args.i7.now })) = λ g a b h e k f n. restored_as_lem ((c.args.src.now)) ((let x = c.args in
    record { t1 = x.t1.now; t2 = x.t2.now; t3 = x.t3.now; t4 = x.t4.now; t5 = x.t5.now; t6 = x.t6.now; t7 = x.t7.now; t8 = x.t8.now; t9 = x.t9.now; t10 = x.t10.now; t15 = x.t15.now; t16 = x.t16.now; t17 = x.t17.now })) ((record { tokens = c.args.i1.now; rules = c.args.i7.now })) ((c.clear_all.new.src)) ((record { t1 = c.clear_all.new.t1; t2 = c.clear_all.new.t2; t3 = c.clear_all.new.t3; t4 = c.clear_all.new.t4; t5 = c.clear_all.new.t5; t6 = c.clear_all.new.t6; t7 = c.clear_all.new.t7; t8 = c.clear_all.new.t8; t9 = c.clear_all.new.t9; t10 = c.clear_all.new.t10; t15 = c.clear_all.new.t15; t16 = c.clear_all.new.t16; t17 = c.clear_all.new.t17 })) ((record { tokens = c.clear_all.new.i1; rules = c.clear_all.new.i7 })) c.clear_all.ensures ((c.args.s.now)) c.sizes_fit-sized.result c.examine.result c.sizes_fit-sized.ensures c.examine.ensures g
    (record { answer = b; head = h; source = ((c.clear_all.new.src)); tables = ((record { t1 = c.clear_all.new.t1; t2 = c.clear_all.new.t2; t3 = c.clear_all.new.t3; t4 = c.clear_all.new.t4; t5 = c.clear_all.new.t5; t6 = c.clear_all.new.t6; t7 = c.clear_all.new.t7; t8 = c.clear_all.new.t8; t9 = c.clear_all.new.t9; t10 = c.clear_all.new.t10; t15 = c.clear_all.new.t15; t16 = c.clear_all.new.t16; t17 = c.clear_all.new.t17 })); indexes = ((record { tokens = c.clear_all.new.i1; rules = c.clear_all.new.i7 })) }) e
    (cleared_out_lem ((c.args.src.now)) ((let x = c.args in
    record { t1 = x.t1.now; t2 = x.t2.now; t3 = x.t3.now; t4 = x.t4.now; t5 = x.t5.now; t6 = x.t6.now; t7 = x.t7.now; t8 = x.t8.now; t9 = x.t9.now; t10 = x.t10.now; t15 = x.t15.now; t16 = x.t16.now; t17 = x.t17.now })) ((record { tokens = c.args.i1.now; rules = c.args.i7.now })) ((c.clear_all.new.src)) ((record { t1 = c.clear_all.new.t1; t2 = c.clear_all.new.t2; t3 = c.clear_all.new.t3; t4 = c.clear_all.new.t4; t5 = c.clear_all.new.t5; t6 = c.clear_all.new.t6; t7 = c.clear_all.new.t7; t8 = c.clear_all.new.t8; t9 = c.clear_all.new.t9; t10 = c.clear_all.new.t10; t15 = c.clear_all.new.t15; t16 = c.clear_all.new.t16; t17 = c.clear_all.new.t17 })) ((record { tokens = c.clear_all.new.i1; rules = c.clear_all.new.i7 })) c.clear_all.ensures a b h f n ∙ k) in it) (Err NoWholeBlocks) (Err NotWhole) _ _ (err_is c.in-Err-NoWholeBlocks.is c.in-Err-NoWholeBlocks.field-0-is) refl c.refused.ensures.0 c.refused.ensures.1

pub shape_of-src-in-Err-FaultyNumber : goal.shape_of-src-in-Err-FaultyNumber
shape_of-src-in-Err-FaultyNumber c = c.clear_all.auto.src

pub shape_of-t1-in-Err-FaultyNumber : goal.shape_of-t1-in-Err-FaultyNumber
shape_of-t1-in-Err-FaultyNumber c = c.clear_all.auto.t1

pub shape_of-t2-in-Err-FaultyNumber : goal.shape_of-t2-in-Err-FaultyNumber
shape_of-t2-in-Err-FaultyNumber c = c.clear_all.auto.t2

pub shape_of-t3-in-Err-FaultyNumber : goal.shape_of-t3-in-Err-FaultyNumber
shape_of-t3-in-Err-FaultyNumber c = c.clear_all.auto.t3

pub shape_of-t4-in-Err-FaultyNumber : goal.shape_of-t4-in-Err-FaultyNumber
shape_of-t4-in-Err-FaultyNumber c = c.clear_all.auto.t4

pub shape_of-t5-in-Err-FaultyNumber : goal.shape_of-t5-in-Err-FaultyNumber
shape_of-t5-in-Err-FaultyNumber c = c.clear_all.auto.t5

pub shape_of-t6-in-Err-FaultyNumber : goal.shape_of-t6-in-Err-FaultyNumber
shape_of-t6-in-Err-FaultyNumber c = c.clear_all.auto.t6

pub shape_of-t7-in-Err-FaultyNumber : goal.shape_of-t7-in-Err-FaultyNumber
shape_of-t7-in-Err-FaultyNumber c = c.clear_all.auto.t7

pub shape_of-t8-in-Err-FaultyNumber : goal.shape_of-t8-in-Err-FaultyNumber
shape_of-t8-in-Err-FaultyNumber c = c.clear_all.auto.t8

pub shape_of-t9-in-Err-FaultyNumber : goal.shape_of-t9-in-Err-FaultyNumber
shape_of-t9-in-Err-FaultyNumber c = c.clear_all.auto.t9

pub shape_of-t10-in-Err-FaultyNumber : goal.shape_of-t10-in-Err-FaultyNumber
shape_of-t10-in-Err-FaultyNumber c = c.clear_all.auto.t10

pub shape_of-i1-in-Err-FaultyNumber : goal.shape_of-i1-in-Err-FaultyNumber
shape_of-i1-in-Err-FaultyNumber c = c.clear_all.auto.i1

pub shape_of-i7-in-Err-FaultyNumber : goal.shape_of-i7-in-Err-FaultyNumber
shape_of-i7-in-Err-FaultyNumber c = c.clear_all.auto.i7

pub shape_of-t15-in-Err-FaultyNumber : goal.shape_of-t15-in-Err-FaultyNumber
shape_of-t15-in-Err-FaultyNumber c = c.clear_all.auto.t15

pub shape_of-t16-in-Err-FaultyNumber : goal.shape_of-t16-in-Err-FaultyNumber
shape_of-t16-in-Err-FaultyNumber c = c.clear_all.auto.t16

pub shape_of-t17-in-Err-FaultyNumber : goal.shape_of-t17-in-Err-FaultyNumber
shape_of-t17-in-Err-FaultyNumber c = c.clear_all.auto.t17

pub returns-in-Err-FaultyNumber : goal.returns-in-Err-FaultyNumber
returns-in-Err-FaultyNumber c =
    (let it : (g : Result (Unit {0}) FindingError) (a b : Result (Unit {0}) RestoringError) (h : Head) → c.examine.result ≡ g → cleared_out a ((c.args.src.now)) ((let x = c.args in
    record { t1 = x.t1.now; t2 = x.t2.now; t3 = x.t3.now; t4 = x.t4.now; t5 = x.t5.now; t6 = x.t6.now; t7 = x.t7.now; t8 = x.t8.now; t9 = x.t9.now; t10 = x.t10.now; t15 = x.t15.now; t16 = x.t16.now; t17 = x.t17.now })) ((record { tokens = c.args.i1.now; rules = c.args.i7.now })) ≡ restored_as g ((c.args.s.now)) ((c.args.src.now)) ((let x = c.args in
    record { t1 = x.t1.now; t2 = x.t2.now; t3 = x.t3.now; t4 = x.t4.now; t5 = x.t5.now; t6 = x.t6.now; t7 = x.t7.now; t8 = x.t8.now; t9 = x.t9.now; t10 = x.t10.now; t15 = x.t15.now; t16 = x.t16.now; t17 = x.t17.now })) ((record { tokens = c.args.i1.now; rules = c.args.i7.now })) → b ≡ a → h ≡ no_head → record { answer = b; head = h; source = ((c.clear_all.new.src)); tables = ((record { t1 = c.clear_all.new.t1; t2 = c.clear_all.new.t2; t3 = c.clear_all.new.t3; t4 = c.clear_all.new.t4; t5 = c.clear_all.new.t5; t6 = c.clear_all.new.t6; t7 = c.clear_all.new.t7; t8 = c.clear_all.new.t8; t9 = c.clear_all.new.t9; t10 = c.clear_all.new.t10; t15 = c.clear_all.new.t15; t16 = c.clear_all.new.t16; t17 = c.clear_all.new.t17 })); indexes = ((record { tokens = c.clear_all.new.i1; rules = c.clear_all.new.i7 })) } ≡ restored ((c.args.s.now)) ((c.args.src.now)) ((let x = c.args in
    record { t1 = x.t1.now; t2 = x.t2.now; t3 = x.t3.now; t4 = x.t4.now; t5 = x.t5.now; t6 = x.t6.now; t7 = x.t7.now; t8 = x.t8.now; t9 = x.t9.now; t10 = x.t10.now; t15 = x.t15.now; t16 = x.t16.now; t17 = x.t17.now })) ((record { tokens = c.args.i1.now; rules = c.args.i7.now })) = λ g a b h e k f n. restored_as_lem ((c.args.src.now)) ((let x = c.args in
    record { t1 = x.t1.now; t2 = x.t2.now; t3 = x.t3.now; t4 = x.t4.now; t5 = x.t5.now; t6 = x.t6.now; t7 = x.t7.now; t8 = x.t8.now; t9 = x.t9.now; t10 = x.t10.now; t15 = x.t15.now; t16 = x.t16.now; t17 = x.t17.now })) ((record { tokens = c.args.i1.now; rules = c.args.i7.now })) ((c.clear_all.new.src)) ((record { t1 = c.clear_all.new.t1; t2 = c.clear_all.new.t2; t3 = c.clear_all.new.t3; t4 = c.clear_all.new.t4; t5 = c.clear_all.new.t5; t6 = c.clear_all.new.t6; t7 = c.clear_all.new.t7; t8 = c.clear_all.new.t8; t9 = c.clear_all.new.t9; t10 = c.clear_all.new.t10; t15 = c.clear_all.new.t15; t16 = c.clear_all.new.t16; t17 = c.clear_all.new.t17 })) ((record { tokens = c.clear_all.new.i1; rules = c.clear_all.new.i7 })) c.clear_all.ensures ((c.args.s.now)) c.sizes_fit-sized.result c.examine.result c.sizes_fit-sized.ensures c.examine.ensures g
    (record { answer = b; head = h; source = ((c.clear_all.new.src)); tables = ((record { t1 = c.clear_all.new.t1; t2 = c.clear_all.new.t2; t3 = c.clear_all.new.t3; t4 = c.clear_all.new.t4; t5 = c.clear_all.new.t5; t6 = c.clear_all.new.t6; t7 = c.clear_all.new.t7; t8 = c.clear_all.new.t8; t9 = c.clear_all.new.t9; t10 = c.clear_all.new.t10; t15 = c.clear_all.new.t15; t16 = c.clear_all.new.t16; t17 = c.clear_all.new.t17 })); indexes = ((record { tokens = c.clear_all.new.i1; rules = c.clear_all.new.i7 })) }) e
    (cleared_out_lem ((c.args.src.now)) ((let x = c.args in
    record { t1 = x.t1.now; t2 = x.t2.now; t3 = x.t3.now; t4 = x.t4.now; t5 = x.t5.now; t6 = x.t6.now; t7 = x.t7.now; t8 = x.t8.now; t9 = x.t9.now; t10 = x.t10.now; t15 = x.t15.now; t16 = x.t16.now; t17 = x.t17.now })) ((record { tokens = c.args.i1.now; rules = c.args.i7.now })) ((c.clear_all.new.src)) ((record { t1 = c.clear_all.new.t1; t2 = c.clear_all.new.t2; t3 = c.clear_all.new.t3; t4 = c.clear_all.new.t4; t5 = c.clear_all.new.t5; t6 = c.clear_all.new.t6; t7 = c.clear_all.new.t7; t8 = c.clear_all.new.t8; t9 = c.clear_all.new.t9; t10 = c.clear_all.new.t10; t15 = c.clear_all.new.t15; t16 = c.clear_all.new.t16; t17 = c.clear_all.new.t17 })) ((record { tokens = c.clear_all.new.i1; rules = c.clear_all.new.i7 })) c.clear_all.ensures a b h f n ∙ k) in it) (Err FaultyNumber) (Err BadNumber) _ _ (err_is c.in-Err-FaultyNumber.is c.in-Err-FaultyNumber.field-0-is) refl c.refused-in-Err-FaultyNumber.ensures.0 c.refused-in-Err-FaultyNumber.ensures.1

pub shape_of-src-in-Err-FaultyCheck : goal.shape_of-src-in-Err-FaultyCheck
shape_of-src-in-Err-FaultyCheck c = c.clear_all.auto.src

pub shape_of-t1-in-Err-FaultyCheck : goal.shape_of-t1-in-Err-FaultyCheck
shape_of-t1-in-Err-FaultyCheck c = c.clear_all.auto.t1

pub shape_of-t2-in-Err-FaultyCheck : goal.shape_of-t2-in-Err-FaultyCheck
shape_of-t2-in-Err-FaultyCheck c = c.clear_all.auto.t2

pub shape_of-t3-in-Err-FaultyCheck : goal.shape_of-t3-in-Err-FaultyCheck
shape_of-t3-in-Err-FaultyCheck c = c.clear_all.auto.t3

pub shape_of-t4-in-Err-FaultyCheck : goal.shape_of-t4-in-Err-FaultyCheck
shape_of-t4-in-Err-FaultyCheck c = c.clear_all.auto.t4

pub shape_of-t5-in-Err-FaultyCheck : goal.shape_of-t5-in-Err-FaultyCheck
shape_of-t5-in-Err-FaultyCheck c = c.clear_all.auto.t5

pub shape_of-t6-in-Err-FaultyCheck : goal.shape_of-t6-in-Err-FaultyCheck
shape_of-t6-in-Err-FaultyCheck c = c.clear_all.auto.t6

pub shape_of-t7-in-Err-FaultyCheck : goal.shape_of-t7-in-Err-FaultyCheck
shape_of-t7-in-Err-FaultyCheck c = c.clear_all.auto.t7

pub shape_of-t8-in-Err-FaultyCheck : goal.shape_of-t8-in-Err-FaultyCheck
shape_of-t8-in-Err-FaultyCheck c = c.clear_all.auto.t8

pub shape_of-t9-in-Err-FaultyCheck : goal.shape_of-t9-in-Err-FaultyCheck
shape_of-t9-in-Err-FaultyCheck c = c.clear_all.auto.t9

pub shape_of-t10-in-Err-FaultyCheck : goal.shape_of-t10-in-Err-FaultyCheck
shape_of-t10-in-Err-FaultyCheck c = c.clear_all.auto.t10

pub shape_of-i1-in-Err-FaultyCheck : goal.shape_of-i1-in-Err-FaultyCheck
shape_of-i1-in-Err-FaultyCheck c = c.clear_all.auto.i1

pub shape_of-i7-in-Err-FaultyCheck : goal.shape_of-i7-in-Err-FaultyCheck
shape_of-i7-in-Err-FaultyCheck c = c.clear_all.auto.i7

pub shape_of-t15-in-Err-FaultyCheck : goal.shape_of-t15-in-Err-FaultyCheck
shape_of-t15-in-Err-FaultyCheck c = c.clear_all.auto.t15

pub shape_of-t16-in-Err-FaultyCheck : goal.shape_of-t16-in-Err-FaultyCheck
shape_of-t16-in-Err-FaultyCheck c = c.clear_all.auto.t16

pub shape_of-t17-in-Err-FaultyCheck : goal.shape_of-t17-in-Err-FaultyCheck
shape_of-t17-in-Err-FaultyCheck c = c.clear_all.auto.t17

pub returns-in-Err-FaultyCheck : goal.returns-in-Err-FaultyCheck
returns-in-Err-FaultyCheck c =
    (let it : (g : Result (Unit {0}) FindingError) (a b : Result (Unit {0}) RestoringError) (h : Head) → c.examine.result ≡ g → cleared_out a ((c.args.src.now)) ((let x = c.args in
    record { t1 = x.t1.now; t2 = x.t2.now; t3 = x.t3.now; t4 = x.t4.now; t5 = x.t5.now; t6 = x.t6.now; t7 = x.t7.now; t8 = x.t8.now; t9 = x.t9.now; t10 = x.t10.now; t15 = x.t15.now; t16 = x.t16.now; t17 = x.t17.now })) ((record { tokens = c.args.i1.now; rules = c.args.i7.now })) ≡ restored_as g ((c.args.s.now)) ((c.args.src.now)) ((let x = c.args in
    record { t1 = x.t1.now; t2 = x.t2.now; t3 = x.t3.now; t4 = x.t4.now; t5 = x.t5.now; t6 = x.t6.now; t7 = x.t7.now; t8 = x.t8.now; t9 = x.t9.now; t10 = x.t10.now; t15 = x.t15.now; t16 = x.t16.now; t17 = x.t17.now })) ((record { tokens = c.args.i1.now; rules = c.args.i7.now })) → b ≡ a → h ≡ no_head → record { answer = b; head = h; source = ((c.clear_all.new.src)); tables = ((record { t1 = c.clear_all.new.t1; t2 = c.clear_all.new.t2; t3 = c.clear_all.new.t3; t4 = c.clear_all.new.t4; t5 = c.clear_all.new.t5; t6 = c.clear_all.new.t6; t7 = c.clear_all.new.t7; t8 = c.clear_all.new.t8; t9 = c.clear_all.new.t9; t10 = c.clear_all.new.t10; t15 = c.clear_all.new.t15; t16 = c.clear_all.new.t16; t17 = c.clear_all.new.t17 })); indexes = ((record { tokens = c.clear_all.new.i1; rules = c.clear_all.new.i7 })) } ≡ restored ((c.args.s.now)) ((c.args.src.now)) ((let x = c.args in
    record { t1 = x.t1.now; t2 = x.t2.now; t3 = x.t3.now; t4 = x.t4.now; t5 = x.t5.now; t6 = x.t6.now; t7 = x.t7.now; t8 = x.t8.now; t9 = x.t9.now; t10 = x.t10.now; t15 = x.t15.now; t16 = x.t16.now; t17 = x.t17.now })) ((record { tokens = c.args.i1.now; rules = c.args.i7.now })) = λ g a b h e k f n. restored_as_lem ((c.args.src.now)) ((let x = c.args in
    record { t1 = x.t1.now; t2 = x.t2.now; t3 = x.t3.now; t4 = x.t4.now; t5 = x.t5.now; t6 = x.t6.now; t7 = x.t7.now; t8 = x.t8.now; t9 = x.t9.now; t10 = x.t10.now; t15 = x.t15.now; t16 = x.t16.now; t17 = x.t17.now })) ((record { tokens = c.args.i1.now; rules = c.args.i7.now })) ((c.clear_all.new.src)) ((record { t1 = c.clear_all.new.t1; t2 = c.clear_all.new.t2; t3 = c.clear_all.new.t3; t4 = c.clear_all.new.t4; t5 = c.clear_all.new.t5; t6 = c.clear_all.new.t6; t7 = c.clear_all.new.t7; t8 = c.clear_all.new.t8; t9 = c.clear_all.new.t9; t10 = c.clear_all.new.t10; t15 = c.clear_all.new.t15; t16 = c.clear_all.new.t16; t17 = c.clear_all.new.t17 })) ((record { tokens = c.clear_all.new.i1; rules = c.clear_all.new.i7 })) c.clear_all.ensures ((c.args.s.now)) c.sizes_fit-sized.result c.examine.result c.sizes_fit-sized.ensures c.examine.ensures g
    (record { answer = b; head = h; source = ((c.clear_all.new.src)); tables = ((record { t1 = c.clear_all.new.t1; t2 = c.clear_all.new.t2; t3 = c.clear_all.new.t3; t4 = c.clear_all.new.t4; t5 = c.clear_all.new.t5; t6 = c.clear_all.new.t6; t7 = c.clear_all.new.t7; t8 = c.clear_all.new.t8; t9 = c.clear_all.new.t9; t10 = c.clear_all.new.t10; t15 = c.clear_all.new.t15; t16 = c.clear_all.new.t16; t17 = c.clear_all.new.t17 })); indexes = ((record { tokens = c.clear_all.new.i1; rules = c.clear_all.new.i7 })) }) e
    (cleared_out_lem ((c.args.src.now)) ((let x = c.args in
    record { t1 = x.t1.now; t2 = x.t2.now; t3 = x.t3.now; t4 = x.t4.now; t5 = x.t5.now; t6 = x.t6.now; t7 = x.t7.now; t8 = x.t8.now; t9 = x.t9.now; t10 = x.t10.now; t15 = x.t15.now; t16 = x.t16.now; t17 = x.t17.now })) ((record { tokens = c.args.i1.now; rules = c.args.i7.now })) ((c.clear_all.new.src)) ((record { t1 = c.clear_all.new.t1; t2 = c.clear_all.new.t2; t3 = c.clear_all.new.t3; t4 = c.clear_all.new.t4; t5 = c.clear_all.new.t5; t6 = c.clear_all.new.t6; t7 = c.clear_all.new.t7; t8 = c.clear_all.new.t8; t9 = c.clear_all.new.t9; t10 = c.clear_all.new.t10; t15 = c.clear_all.new.t15; t16 = c.clear_all.new.t16; t17 = c.clear_all.new.t17 })) ((record { tokens = c.clear_all.new.i1; rules = c.clear_all.new.i7 })) c.clear_all.ensures a b h f n ∙ k) in it) (Err FaultyCheck) (Err BadCheck) _ _ (err_is c.in-Err-FaultyCheck.is c.in-Err-FaultyCheck.field-0-is) refl c.refused-in-Err-FaultyCheck.ensures.0 c.refused-in-Err-FaultyCheck.ensures.1

pub shape_of-src-in-Err-Unfilled : goal.shape_of-src-in-Err-Unfilled
shape_of-src-in-Err-Unfilled c = c.clear_all.auto.src

pub shape_of-t1-in-Err-Unfilled : goal.shape_of-t1-in-Err-Unfilled
shape_of-t1-in-Err-Unfilled c = c.clear_all.auto.t1

pub shape_of-t2-in-Err-Unfilled : goal.shape_of-t2-in-Err-Unfilled
shape_of-t2-in-Err-Unfilled c = c.clear_all.auto.t2

pub shape_of-t3-in-Err-Unfilled : goal.shape_of-t3-in-Err-Unfilled
shape_of-t3-in-Err-Unfilled c = c.clear_all.auto.t3

pub shape_of-t4-in-Err-Unfilled : goal.shape_of-t4-in-Err-Unfilled
shape_of-t4-in-Err-Unfilled c = c.clear_all.auto.t4

pub shape_of-t5-in-Err-Unfilled : goal.shape_of-t5-in-Err-Unfilled
shape_of-t5-in-Err-Unfilled c = c.clear_all.auto.t5

pub shape_of-t6-in-Err-Unfilled : goal.shape_of-t6-in-Err-Unfilled
shape_of-t6-in-Err-Unfilled c = c.clear_all.auto.t6

pub shape_of-t7-in-Err-Unfilled : goal.shape_of-t7-in-Err-Unfilled
shape_of-t7-in-Err-Unfilled c = c.clear_all.auto.t7

pub shape_of-t8-in-Err-Unfilled : goal.shape_of-t8-in-Err-Unfilled
shape_of-t8-in-Err-Unfilled c = c.clear_all.auto.t8

pub shape_of-t9-in-Err-Unfilled : goal.shape_of-t9-in-Err-Unfilled
shape_of-t9-in-Err-Unfilled c = c.clear_all.auto.t9

pub shape_of-t10-in-Err-Unfilled : goal.shape_of-t10-in-Err-Unfilled
shape_of-t10-in-Err-Unfilled c = c.clear_all.auto.t10

pub shape_of-i1-in-Err-Unfilled : goal.shape_of-i1-in-Err-Unfilled
shape_of-i1-in-Err-Unfilled c = c.clear_all.auto.i1

pub shape_of-i7-in-Err-Unfilled : goal.shape_of-i7-in-Err-Unfilled
shape_of-i7-in-Err-Unfilled c = c.clear_all.auto.i7

pub shape_of-t15-in-Err-Unfilled : goal.shape_of-t15-in-Err-Unfilled
shape_of-t15-in-Err-Unfilled c = c.clear_all.auto.t15

pub shape_of-t16-in-Err-Unfilled : goal.shape_of-t16-in-Err-Unfilled
shape_of-t16-in-Err-Unfilled c = c.clear_all.auto.t16

pub shape_of-t17-in-Err-Unfilled : goal.shape_of-t17-in-Err-Unfilled
shape_of-t17-in-Err-Unfilled c = c.clear_all.auto.t17

pub returns-in-Err-Unfilled : goal.returns-in-Err-Unfilled
returns-in-Err-Unfilled c =
    (let it : (g : Result (Unit {0}) FindingError) (a b : Result (Unit {0}) RestoringError) (h : Head) → c.examine.result ≡ g → cleared_out a ((c.args.src.now)) ((let x = c.args in
    record { t1 = x.t1.now; t2 = x.t2.now; t3 = x.t3.now; t4 = x.t4.now; t5 = x.t5.now; t6 = x.t6.now; t7 = x.t7.now; t8 = x.t8.now; t9 = x.t9.now; t10 = x.t10.now; t15 = x.t15.now; t16 = x.t16.now; t17 = x.t17.now })) ((record { tokens = c.args.i1.now; rules = c.args.i7.now })) ≡ restored_as g ((c.args.s.now)) ((c.args.src.now)) ((let x = c.args in
    record { t1 = x.t1.now; t2 = x.t2.now; t3 = x.t3.now; t4 = x.t4.now; t5 = x.t5.now; t6 = x.t6.now; t7 = x.t7.now; t8 = x.t8.now; t9 = x.t9.now; t10 = x.t10.now; t15 = x.t15.now; t16 = x.t16.now; t17 = x.t17.now })) ((record { tokens = c.args.i1.now; rules = c.args.i7.now })) → b ≡ a → h ≡ no_head → record { answer = b; head = h; source = ((c.clear_all.new.src)); tables = ((record { t1 = c.clear_all.new.t1; t2 = c.clear_all.new.t2; t3 = c.clear_all.new.t3; t4 = c.clear_all.new.t4; t5 = c.clear_all.new.t5; t6 = c.clear_all.new.t6; t7 = c.clear_all.new.t7; t8 = c.clear_all.new.t8; t9 = c.clear_all.new.t9; t10 = c.clear_all.new.t10; t15 = c.clear_all.new.t15; t16 = c.clear_all.new.t16; t17 = c.clear_all.new.t17 })); indexes = ((record { tokens = c.clear_all.new.i1; rules = c.clear_all.new.i7 })) } ≡ restored ((c.args.s.now)) ((c.args.src.now)) ((let x = c.args in
    record { t1 = x.t1.now; t2 = x.t2.now; t3 = x.t3.now; t4 = x.t4.now; t5 = x.t5.now; t6 = x.t6.now; t7 = x.t7.now; t8 = x.t8.now; t9 = x.t9.now; t10 = x.t10.now; t15 = x.t15.now; t16 = x.t16.now; t17 = x.t17.now })) ((record { tokens = c.args.i1.now; rules = c.args.i7.now })) = λ g a b h e k f n. restored_as_lem ((c.args.src.now)) ((let x = c.args in
    record { t1 = x.t1.now; t2 = x.t2.now; t3 = x.t3.now; t4 = x.t4.now; t5 = x.t5.now; t6 = x.t6.now; t7 = x.t7.now; t8 = x.t8.now; t9 = x.t9.now; t10 = x.t10.now; t15 = x.t15.now; t16 = x.t16.now; t17 = x.t17.now })) ((record { tokens = c.args.i1.now; rules = c.args.i7.now })) ((c.clear_all.new.src)) ((record { t1 = c.clear_all.new.t1; t2 = c.clear_all.new.t2; t3 = c.clear_all.new.t3; t4 = c.clear_all.new.t4; t5 = c.clear_all.new.t5; t6 = c.clear_all.new.t6; t7 = c.clear_all.new.t7; t8 = c.clear_all.new.t8; t9 = c.clear_all.new.t9; t10 = c.clear_all.new.t10; t15 = c.clear_all.new.t15; t16 = c.clear_all.new.t16; t17 = c.clear_all.new.t17 })) ((record { tokens = c.clear_all.new.i1; rules = c.clear_all.new.i7 })) c.clear_all.ensures ((c.args.s.now)) c.sizes_fit-sized.result c.examine.result c.sizes_fit-sized.ensures c.examine.ensures g
    (record { answer = b; head = h; source = ((c.clear_all.new.src)); tables = ((record { t1 = c.clear_all.new.t1; t2 = c.clear_all.new.t2; t3 = c.clear_all.new.t3; t4 = c.clear_all.new.t4; t5 = c.clear_all.new.t5; t6 = c.clear_all.new.t6; t7 = c.clear_all.new.t7; t8 = c.clear_all.new.t8; t9 = c.clear_all.new.t9; t10 = c.clear_all.new.t10; t15 = c.clear_all.new.t15; t16 = c.clear_all.new.t16; t17 = c.clear_all.new.t17 })); indexes = ((record { tokens = c.clear_all.new.i1; rules = c.clear_all.new.i7 })) }) e
    (cleared_out_lem ((c.args.src.now)) ((let x = c.args in
    record { t1 = x.t1.now; t2 = x.t2.now; t3 = x.t3.now; t4 = x.t4.now; t5 = x.t5.now; t6 = x.t6.now; t7 = x.t7.now; t8 = x.t8.now; t9 = x.t9.now; t10 = x.t10.now; t15 = x.t15.now; t16 = x.t16.now; t17 = x.t17.now })) ((record { tokens = c.args.i1.now; rules = c.args.i7.now })) ((c.clear_all.new.src)) ((record { t1 = c.clear_all.new.t1; t2 = c.clear_all.new.t2; t3 = c.clear_all.new.t3; t4 = c.clear_all.new.t4; t5 = c.clear_all.new.t5; t6 = c.clear_all.new.t6; t7 = c.clear_all.new.t7; t8 = c.clear_all.new.t8; t9 = c.clear_all.new.t9; t10 = c.clear_all.new.t10; t15 = c.clear_all.new.t15; t16 = c.clear_all.new.t16; t17 = c.clear_all.new.t17 })) ((record { tokens = c.clear_all.new.i1; rules = c.clear_all.new.i7 })) c.clear_all.ensures a b h f n ∙ k) in it) (Err Unfilled) (Err BadContent) _ _ (err_is c.in-Err-Unfilled.is c.in-Err-Unfilled.field-0-is) refl c.refused-in-Err-Unfilled.ensures.0 c.refused-in-Err-Unfilled.ensures.1

pub shape_of-src-in-Err-WrongSize : goal.shape_of-src-in-Err-WrongSize
shape_of-src-in-Err-WrongSize c = c.clear_all.auto.src

pub shape_of-t1-in-Err-WrongSize : goal.shape_of-t1-in-Err-WrongSize
shape_of-t1-in-Err-WrongSize c = c.clear_all.auto.t1

pub shape_of-t2-in-Err-WrongSize : goal.shape_of-t2-in-Err-WrongSize
shape_of-t2-in-Err-WrongSize c = c.clear_all.auto.t2

pub shape_of-t3-in-Err-WrongSize : goal.shape_of-t3-in-Err-WrongSize
shape_of-t3-in-Err-WrongSize c = c.clear_all.auto.t3

pub shape_of-t4-in-Err-WrongSize : goal.shape_of-t4-in-Err-WrongSize
shape_of-t4-in-Err-WrongSize c = c.clear_all.auto.t4

pub shape_of-t5-in-Err-WrongSize : goal.shape_of-t5-in-Err-WrongSize
shape_of-t5-in-Err-WrongSize c = c.clear_all.auto.t5

pub shape_of-t6-in-Err-WrongSize : goal.shape_of-t6-in-Err-WrongSize
shape_of-t6-in-Err-WrongSize c = c.clear_all.auto.t6

pub shape_of-t7-in-Err-WrongSize : goal.shape_of-t7-in-Err-WrongSize
shape_of-t7-in-Err-WrongSize c = c.clear_all.auto.t7

pub shape_of-t8-in-Err-WrongSize : goal.shape_of-t8-in-Err-WrongSize
shape_of-t8-in-Err-WrongSize c = c.clear_all.auto.t8

pub shape_of-t9-in-Err-WrongSize : goal.shape_of-t9-in-Err-WrongSize
shape_of-t9-in-Err-WrongSize c = c.clear_all.auto.t9

pub shape_of-t10-in-Err-WrongSize : goal.shape_of-t10-in-Err-WrongSize
shape_of-t10-in-Err-WrongSize c = c.clear_all.auto.t10

pub shape_of-i1-in-Err-WrongSize : goal.shape_of-i1-in-Err-WrongSize
shape_of-i1-in-Err-WrongSize c = c.clear_all.auto.i1

pub shape_of-i7-in-Err-WrongSize : goal.shape_of-i7-in-Err-WrongSize
shape_of-i7-in-Err-WrongSize c = c.clear_all.auto.i7

pub shape_of-t15-in-Err-WrongSize : goal.shape_of-t15-in-Err-WrongSize
shape_of-t15-in-Err-WrongSize c = c.clear_all.auto.t15

pub shape_of-t16-in-Err-WrongSize : goal.shape_of-t16-in-Err-WrongSize
shape_of-t16-in-Err-WrongSize c = c.clear_all.auto.t16

pub shape_of-t17-in-Err-WrongSize : goal.shape_of-t17-in-Err-WrongSize
shape_of-t17-in-Err-WrongSize c = c.clear_all.auto.t17

pub returns-in-Err-WrongSize : goal.returns-in-Err-WrongSize
returns-in-Err-WrongSize c =
    (let it : (g : Result (Unit {0}) FindingError) (a b : Result (Unit {0}) RestoringError) (h : Head) → c.examine.result ≡ g → cleared_out a ((c.args.src.now)) ((let x = c.args in
    record { t1 = x.t1.now; t2 = x.t2.now; t3 = x.t3.now; t4 = x.t4.now; t5 = x.t5.now; t6 = x.t6.now; t7 = x.t7.now; t8 = x.t8.now; t9 = x.t9.now; t10 = x.t10.now; t15 = x.t15.now; t16 = x.t16.now; t17 = x.t17.now })) ((record { tokens = c.args.i1.now; rules = c.args.i7.now })) ≡ restored_as g ((c.args.s.now)) ((c.args.src.now)) ((let x = c.args in
    record { t1 = x.t1.now; t2 = x.t2.now; t3 = x.t3.now; t4 = x.t4.now; t5 = x.t5.now; t6 = x.t6.now; t7 = x.t7.now; t8 = x.t8.now; t9 = x.t9.now; t10 = x.t10.now; t15 = x.t15.now; t16 = x.t16.now; t17 = x.t17.now })) ((record { tokens = c.args.i1.now; rules = c.args.i7.now })) → b ≡ a → h ≡ no_head → record { answer = b; head = h; source = ((c.clear_all.new.src)); tables = ((record { t1 = c.clear_all.new.t1; t2 = c.clear_all.new.t2; t3 = c.clear_all.new.t3; t4 = c.clear_all.new.t4; t5 = c.clear_all.new.t5; t6 = c.clear_all.new.t6; t7 = c.clear_all.new.t7; t8 = c.clear_all.new.t8; t9 = c.clear_all.new.t9; t10 = c.clear_all.new.t10; t15 = c.clear_all.new.t15; t16 = c.clear_all.new.t16; t17 = c.clear_all.new.t17 })); indexes = ((record { tokens = c.clear_all.new.i1; rules = c.clear_all.new.i7 })) } ≡ restored ((c.args.s.now)) ((c.args.src.now)) ((let x = c.args in
    record { t1 = x.t1.now; t2 = x.t2.now; t3 = x.t3.now; t4 = x.t4.now; t5 = x.t5.now; t6 = x.t6.now; t7 = x.t7.now; t8 = x.t8.now; t9 = x.t9.now; t10 = x.t10.now; t15 = x.t15.now; t16 = x.t16.now; t17 = x.t17.now })) ((record { tokens = c.args.i1.now; rules = c.args.i7.now })) = λ g a b h e k f n. restored_as_lem ((c.args.src.now)) ((let x = c.args in
    record { t1 = x.t1.now; t2 = x.t2.now; t3 = x.t3.now; t4 = x.t4.now; t5 = x.t5.now; t6 = x.t6.now; t7 = x.t7.now; t8 = x.t8.now; t9 = x.t9.now; t10 = x.t10.now; t15 = x.t15.now; t16 = x.t16.now; t17 = x.t17.now })) ((record { tokens = c.args.i1.now; rules = c.args.i7.now })) ((c.clear_all.new.src)) ((record { t1 = c.clear_all.new.t1; t2 = c.clear_all.new.t2; t3 = c.clear_all.new.t3; t4 = c.clear_all.new.t4; t5 = c.clear_all.new.t5; t6 = c.clear_all.new.t6; t7 = c.clear_all.new.t7; t8 = c.clear_all.new.t8; t9 = c.clear_all.new.t9; t10 = c.clear_all.new.t10; t15 = c.clear_all.new.t15; t16 = c.clear_all.new.t16; t17 = c.clear_all.new.t17 })) ((record { tokens = c.clear_all.new.i1; rules = c.clear_all.new.i7 })) c.clear_all.ensures ((c.args.s.now)) c.sizes_fit-sized.result c.examine.result c.sizes_fit-sized.ensures c.examine.ensures g
    (record { answer = b; head = h; source = ((c.clear_all.new.src)); tables = ((record { t1 = c.clear_all.new.t1; t2 = c.clear_all.new.t2; t3 = c.clear_all.new.t3; t4 = c.clear_all.new.t4; t5 = c.clear_all.new.t5; t6 = c.clear_all.new.t6; t7 = c.clear_all.new.t7; t8 = c.clear_all.new.t8; t9 = c.clear_all.new.t9; t10 = c.clear_all.new.t10; t15 = c.clear_all.new.t15; t16 = c.clear_all.new.t16; t17 = c.clear_all.new.t17 })); indexes = ((record { tokens = c.clear_all.new.i1; rules = c.clear_all.new.i7 })) }) e
    (cleared_out_lem ((c.args.src.now)) ((let x = c.args in
    record { t1 = x.t1.now; t2 = x.t2.now; t3 = x.t3.now; t4 = x.t4.now; t5 = x.t5.now; t6 = x.t6.now; t7 = x.t7.now; t8 = x.t8.now; t9 = x.t9.now; t10 = x.t10.now; t15 = x.t15.now; t16 = x.t16.now; t17 = x.t17.now })) ((record { tokens = c.args.i1.now; rules = c.args.i7.now })) ((c.clear_all.new.src)) ((record { t1 = c.clear_all.new.t1; t2 = c.clear_all.new.t2; t3 = c.clear_all.new.t3; t4 = c.clear_all.new.t4; t5 = c.clear_all.new.t5; t6 = c.clear_all.new.t6; t7 = c.clear_all.new.t7; t8 = c.clear_all.new.t8; t9 = c.clear_all.new.t9; t10 = c.clear_all.new.t10; t15 = c.clear_all.new.t15; t16 = c.clear_all.new.t16; t17 = c.clear_all.new.t17 })) ((record { tokens = c.clear_all.new.i1; rules = c.clear_all.new.i7 })) c.clear_all.ensures a b h f n ∙ k) in it) (Err WrongSize) (Err BadSizes) _ _ (err_is c.in-Err-WrongSize.is c.in-Err-WrongSize.field-0-is) refl c.refused-in-Err-WrongSize.ensures.0 c.refused-in-Err-WrongSize.ensures.1

pub shape_of-src-in-Err-NoRoom : goal.shape_of-src-in-Err-NoRoom
shape_of-src-in-Err-NoRoom c = c.clear_all.auto.src

pub shape_of-t1-in-Err-NoRoom : goal.shape_of-t1-in-Err-NoRoom
shape_of-t1-in-Err-NoRoom c = c.clear_all.auto.t1

pub shape_of-t2-in-Err-NoRoom : goal.shape_of-t2-in-Err-NoRoom
shape_of-t2-in-Err-NoRoom c = c.clear_all.auto.t2

pub shape_of-t3-in-Err-NoRoom : goal.shape_of-t3-in-Err-NoRoom
shape_of-t3-in-Err-NoRoom c = c.clear_all.auto.t3

pub shape_of-t4-in-Err-NoRoom : goal.shape_of-t4-in-Err-NoRoom
shape_of-t4-in-Err-NoRoom c = c.clear_all.auto.t4

pub shape_of-t5-in-Err-NoRoom : goal.shape_of-t5-in-Err-NoRoom
shape_of-t5-in-Err-NoRoom c = c.clear_all.auto.t5

pub shape_of-t6-in-Err-NoRoom : goal.shape_of-t6-in-Err-NoRoom
shape_of-t6-in-Err-NoRoom c = c.clear_all.auto.t6

pub shape_of-t7-in-Err-NoRoom : goal.shape_of-t7-in-Err-NoRoom
shape_of-t7-in-Err-NoRoom c = c.clear_all.auto.t7

pub shape_of-t8-in-Err-NoRoom : goal.shape_of-t8-in-Err-NoRoom
shape_of-t8-in-Err-NoRoom c = c.clear_all.auto.t8

pub shape_of-t9-in-Err-NoRoom : goal.shape_of-t9-in-Err-NoRoom
shape_of-t9-in-Err-NoRoom c = c.clear_all.auto.t9

pub shape_of-t10-in-Err-NoRoom : goal.shape_of-t10-in-Err-NoRoom
shape_of-t10-in-Err-NoRoom c = c.clear_all.auto.t10

pub shape_of-i1-in-Err-NoRoom : goal.shape_of-i1-in-Err-NoRoom
shape_of-i1-in-Err-NoRoom c = c.clear_all.auto.i1

pub shape_of-i7-in-Err-NoRoom : goal.shape_of-i7-in-Err-NoRoom
shape_of-i7-in-Err-NoRoom c = c.clear_all.auto.i7

pub shape_of-t15-in-Err-NoRoom : goal.shape_of-t15-in-Err-NoRoom
shape_of-t15-in-Err-NoRoom c = c.clear_all.auto.t15

pub shape_of-t16-in-Err-NoRoom : goal.shape_of-t16-in-Err-NoRoom
shape_of-t16-in-Err-NoRoom c = c.clear_all.auto.t16

pub shape_of-t17-in-Err-NoRoom : goal.shape_of-t17-in-Err-NoRoom
shape_of-t17-in-Err-NoRoom c = c.clear_all.auto.t17

pub returns-in-Err-NoRoom : goal.returns-in-Err-NoRoom
returns-in-Err-NoRoom c =
    (let it : (g : Result (Unit {0}) FindingError) (a b : Result (Unit {0}) RestoringError) (h : Head) → c.examine.result ≡ g → cleared_out a ((c.args.src.now)) ((let x = c.args in
    record { t1 = x.t1.now; t2 = x.t2.now; t3 = x.t3.now; t4 = x.t4.now; t5 = x.t5.now; t6 = x.t6.now; t7 = x.t7.now; t8 = x.t8.now; t9 = x.t9.now; t10 = x.t10.now; t15 = x.t15.now; t16 = x.t16.now; t17 = x.t17.now })) ((record { tokens = c.args.i1.now; rules = c.args.i7.now })) ≡ restored_as g ((c.args.s.now)) ((c.args.src.now)) ((let x = c.args in
    record { t1 = x.t1.now; t2 = x.t2.now; t3 = x.t3.now; t4 = x.t4.now; t5 = x.t5.now; t6 = x.t6.now; t7 = x.t7.now; t8 = x.t8.now; t9 = x.t9.now; t10 = x.t10.now; t15 = x.t15.now; t16 = x.t16.now; t17 = x.t17.now })) ((record { tokens = c.args.i1.now; rules = c.args.i7.now })) → b ≡ a → h ≡ no_head → record { answer = b; head = h; source = ((c.clear_all.new.src)); tables = ((record { t1 = c.clear_all.new.t1; t2 = c.clear_all.new.t2; t3 = c.clear_all.new.t3; t4 = c.clear_all.new.t4; t5 = c.clear_all.new.t5; t6 = c.clear_all.new.t6; t7 = c.clear_all.new.t7; t8 = c.clear_all.new.t8; t9 = c.clear_all.new.t9; t10 = c.clear_all.new.t10; t15 = c.clear_all.new.t15; t16 = c.clear_all.new.t16; t17 = c.clear_all.new.t17 })); indexes = ((record { tokens = c.clear_all.new.i1; rules = c.clear_all.new.i7 })) } ≡ restored ((c.args.s.now)) ((c.args.src.now)) ((let x = c.args in
    record { t1 = x.t1.now; t2 = x.t2.now; t3 = x.t3.now; t4 = x.t4.now; t5 = x.t5.now; t6 = x.t6.now; t7 = x.t7.now; t8 = x.t8.now; t9 = x.t9.now; t10 = x.t10.now; t15 = x.t15.now; t16 = x.t16.now; t17 = x.t17.now })) ((record { tokens = c.args.i1.now; rules = c.args.i7.now })) = λ g a b h e k f n. restored_as_lem ((c.args.src.now)) ((let x = c.args in
    record { t1 = x.t1.now; t2 = x.t2.now; t3 = x.t3.now; t4 = x.t4.now; t5 = x.t5.now; t6 = x.t6.now; t7 = x.t7.now; t8 = x.t8.now; t9 = x.t9.now; t10 = x.t10.now; t15 = x.t15.now; t16 = x.t16.now; t17 = x.t17.now })) ((record { tokens = c.args.i1.now; rules = c.args.i7.now })) ((c.clear_all.new.src)) ((record { t1 = c.clear_all.new.t1; t2 = c.clear_all.new.t2; t3 = c.clear_all.new.t3; t4 = c.clear_all.new.t4; t5 = c.clear_all.new.t5; t6 = c.clear_all.new.t6; t7 = c.clear_all.new.t7; t8 = c.clear_all.new.t8; t9 = c.clear_all.new.t9; t10 = c.clear_all.new.t10; t15 = c.clear_all.new.t15; t16 = c.clear_all.new.t16; t17 = c.clear_all.new.t17 })) ((record { tokens = c.clear_all.new.i1; rules = c.clear_all.new.i7 })) c.clear_all.ensures ((c.args.s.now)) c.sizes_fit-sized.result c.examine.result c.sizes_fit-sized.ensures c.examine.ensures g
    (record { answer = b; head = h; source = ((c.clear_all.new.src)); tables = ((record { t1 = c.clear_all.new.t1; t2 = c.clear_all.new.t2; t3 = c.clear_all.new.t3; t4 = c.clear_all.new.t4; t5 = c.clear_all.new.t5; t6 = c.clear_all.new.t6; t7 = c.clear_all.new.t7; t8 = c.clear_all.new.t8; t9 = c.clear_all.new.t9; t10 = c.clear_all.new.t10; t15 = c.clear_all.new.t15; t16 = c.clear_all.new.t16; t17 = c.clear_all.new.t17 })); indexes = ((record { tokens = c.clear_all.new.i1; rules = c.clear_all.new.i7 })) }) e
    (cleared_out_lem ((c.args.src.now)) ((let x = c.args in
    record { t1 = x.t1.now; t2 = x.t2.now; t3 = x.t3.now; t4 = x.t4.now; t5 = x.t5.now; t6 = x.t6.now; t7 = x.t7.now; t8 = x.t8.now; t9 = x.t9.now; t10 = x.t10.now; t15 = x.t15.now; t16 = x.t16.now; t17 = x.t17.now })) ((record { tokens = c.args.i1.now; rules = c.args.i7.now })) ((c.clear_all.new.src)) ((record { t1 = c.clear_all.new.t1; t2 = c.clear_all.new.t2; t3 = c.clear_all.new.t3; t4 = c.clear_all.new.t4; t5 = c.clear_all.new.t5; t6 = c.clear_all.new.t6; t7 = c.clear_all.new.t7; t8 = c.clear_all.new.t8; t9 = c.clear_all.new.t9; t10 = c.clear_all.new.t10; t15 = c.clear_all.new.t15; t16 = c.clear_all.new.t16; t17 = c.clear_all.new.t17 })) ((record { tokens = c.clear_all.new.i1; rules = c.clear_all.new.i7 })) c.clear_all.ensures a b h f n ∙ k) in it) (Err (NoRoom _)) (Err (NoSpace _)) _ _ (err_is c.in-Err-NoRoom.is c.in-Err-NoRoom.field-0-is) refl c.refused-in-Err-NoRoom.ensures.0 c.refused-in-Err-NoRoom.ensures.1
