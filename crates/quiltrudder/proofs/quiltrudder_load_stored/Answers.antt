-- `quiltrudder::quiltrudder_load_stored`: what is loaded back, and its answer in numbers.
use mathlib.Core.Path.{◌≡◌}
use Rattle.restoring.specs.Restoring.{restored}
use Rattle.quiltrudder.proofs.Answers.{face_restore}
use Rattle.quiltrudder.proofs.quiltrudder_load_stored.Goals as goal

pub shape_of-src : goal.shape_of-src
shape_of-src c = c.load_stored-r.auto.src

pub shape_of-t1 : goal.shape_of-t1
shape_of-t1 c = c.load_stored-r.auto.t1

pub shape_of-t2 : goal.shape_of-t2
shape_of-t2 c = c.load_stored-r.auto.t2

pub shape_of-t3 : goal.shape_of-t3
shape_of-t3 c = c.load_stored-r.auto.t3

pub shape_of-t4 : goal.shape_of-t4
shape_of-t4 c = c.load_stored-r.auto.t4

pub shape_of-t5 : goal.shape_of-t5
shape_of-t5 c = c.load_stored-r.auto.t5

pub shape_of-t6 : goal.shape_of-t6
shape_of-t6 c = c.load_stored-r.auto.t6

pub shape_of-t7 : goal.shape_of-t7
shape_of-t7 c = c.load_stored-r.auto.t7

pub shape_of-t8 : goal.shape_of-t8
shape_of-t8 c = c.load_stored-r.auto.t8

pub shape_of-t9 : goal.shape_of-t9
shape_of-t9 c = c.load_stored-r.auto.t9

pub shape_of-t10 : goal.shape_of-t10
shape_of-t10 c = c.load_stored-r.auto.t10

pub shape_of-i1 : goal.shape_of-i1
shape_of-i1 c = c.load_stored-r.auto.i1

pub shape_of-i7 : goal.shape_of-i7
shape_of-i7 c = c.load_stored-r.auto.i7

pub shape_of-t15 : goal.shape_of-t15
shape_of-t15 c = c.load_stored-r.auto.t15

pub shape_of-t16 : goal.shape_of-t16
shape_of-t16 c = c.load_stored-r.auto.t16

pub shape_of-t17 : goal.shape_of-t17
shape_of-t17 c = c.load_stored-r.auto.t17

pub returns : goal.returns
returns c =
    face_restore ((c.args.blocks.now)) ((c.args.src.now)) ((let x = c.args in
    record { t1 = x.t1.now; t2 = x.t2.now; t3 = x.t3.now; t4 = x.t4.now; t5 = x.t5.now; t6 = x.t6.now; t7 = x.t7.now; t8 = x.t8.now; t9 = x.t9.now; t10 = x.t10.now; t15 = x.t15.now; t16 = x.t16.now; t17 = x.t17.now })) ((record { tokens = c.args.i1.now; rules = c.args.i7.now })) ((let r = c.load_stored-r.result in
    record { answer = r.answer; head = record { kind = r.kind; counts = r.counts; posix = r.posix; length = r.length; singles = r.singles }; source = c.load_stored-r.new.src; tables = record { t1 = c.load_stored-r.new.t1; t2 = c.load_stored-r.new.t2; t3 = c.load_stored-r.new.t3; t4 = c.load_stored-r.new.t4; t5 = c.load_stored-r.new.t5; t6 = c.load_stored-r.new.t6; t7 = c.load_stored-r.new.t7; t8 = c.load_stored-r.new.t8; t9 = c.load_stored-r.new.t9; t10 = c.load_stored-r.new.t10; t15 = c.load_stored-r.new.t15; t16 = c.load_stored-r.new.t16; t17 = c.load_stored-r.new.t17 }; indexes = record { tokens = c.load_stored-r.new.i1; rules = c.load_stored-r.new.i7 } })) c.restoring_cells.result c.restoring_cells.ensures ((let it : ((let r = c.load_stored-r.result in
    record { answer = r.answer; head = record { kind = r.kind; counts = r.counts; posix = r.posix; length = r.length; singles = r.singles }; source = c.load_stored-r.new.src; tables = record { t1 = c.load_stored-r.new.t1; t2 = c.load_stored-r.new.t2; t3 = c.load_stored-r.new.t3; t4 = c.load_stored-r.new.t4; t5 = c.load_stored-r.new.t5; t6 = c.load_stored-r.new.t6; t7 = c.load_stored-r.new.t7; t8 = c.load_stored-r.new.t8; t9 = c.load_stored-r.new.t9; t10 = c.load_stored-r.new.t10; t15 = c.load_stored-r.new.t15; t16 = c.load_stored-r.new.t16; t17 = c.load_stored-r.new.t17 }; indexes = record { tokens = c.load_stored-r.new.i1; rules = c.load_stored-r.new.i7 } })) ≡ restored ((c.args.blocks.now)) ((c.args.src.now)) ((let x = c.args in
    record { t1 = x.t1.now; t2 = x.t2.now; t3 = x.t3.now; t4 = x.t4.now; t5 = x.t5.now; t6 = x.t6.now; t7 = x.t7.now; t8 = x.t8.now; t9 = x.t9.now; t10 = x.t10.now; t15 = x.t15.now; t16 = x.t16.now; t17 = x.t17.now })) ((record { tokens = c.args.i1.now; rules = c.args.i7.now })) = c.load_stored-r.ensures in it))
