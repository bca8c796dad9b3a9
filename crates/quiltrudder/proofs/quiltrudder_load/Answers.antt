-- `quiltrudder::quiltrudder_load`: the load, and its answer in numbers.
use Rattle.quiltrudder.proofs.Answers.{face_load}
use Rattle.quiltrudder.proofs.quiltrudder_load.Goals as goal

pub shape_of-t1 : goal.shape_of-t1
shape_of-t1 c = c.load-r.auto.t1

pub shape_of-t2 : goal.shape_of-t2
shape_of-t2 c = c.load-r.auto.t2

pub shape_of-t3 : goal.shape_of-t3
shape_of-t3 c = c.load-r.auto.t3

pub shape_of-t4 : goal.shape_of-t4
shape_of-t4 c = c.load-r.auto.t4

pub shape_of-t5 : goal.shape_of-t5
shape_of-t5 c = c.load-r.auto.t5

pub shape_of-t6 : goal.shape_of-t6
shape_of-t6 c = c.load-r.auto.t6

pub shape_of-t7 : goal.shape_of-t7
shape_of-t7 c = c.load-r.auto.t7

pub shape_of-t8 : goal.shape_of-t8
shape_of-t8 c = c.load-r.auto.t8

pub shape_of-t9 : goal.shape_of-t9
shape_of-t9 c = c.load-r.auto.t9

pub shape_of-t10 : goal.shape_of-t10
shape_of-t10 c = c.load-r.auto.t10

pub shape_of-i1 : goal.shape_of-i1
shape_of-i1 c = c.load-r.auto.i1

pub shape_of-i7 : goal.shape_of-i7
shape_of-i7 c = c.load-r.auto.i7

pub shape_of-t15 : goal.shape_of-t15
shape_of-t15 c = c.load-r.auto.t15

pub shape_of-t16 : goal.shape_of-t16
shape_of-t16 c = c.load-r.auto.t16

pub shape_of-t17 : goal.shape_of-t17
shape_of-t17 c = c.load-r.auto.t17

pub returns : goal.returns
returns c = face_load _ _ _ _ _ _ _ c.loading_cells.ensures c.load-r.ensures.spot_value c.load-r.ensures.fact
