-- `loading::load`: an accepted read is sound, so that the walk over the tests runs at once; a refused one is answered as it is.
use Rattle.loading.proofs.Theorems.{accepted_walkable, accepted_judged, rejected_judged}
use Rattle.loading.proofs.load.Goals as goal

pub judge-j-requires : goal.judge-j-requires
judge-j-requires c = accepted_walkable _ _ _ _ _ c.read-r.ensures.is _ c.in-Ok.is

pub shape_of-t1-in-Ok : goal.shape_of-t1-in-Ok
shape_of-t1-in-Ok c = c.read-r.auto.t1

pub shape_of-t2-in-Ok : goal.shape_of-t2-in-Ok
shape_of-t2-in-Ok c = c.read-r.auto.t2

pub shape_of-t3-in-Ok : goal.shape_of-t3-in-Ok
shape_of-t3-in-Ok c = c.read-r.auto.t3

pub shape_of-t4-in-Ok : goal.shape_of-t4-in-Ok
shape_of-t4-in-Ok c = c.read-r.auto.t4

pub shape_of-t5-in-Ok : goal.shape_of-t5-in-Ok
shape_of-t5-in-Ok c = c.read-r.auto.t5

pub shape_of-t6-in-Ok : goal.shape_of-t6-in-Ok
shape_of-t6-in-Ok c = c.read-r.auto.t6

pub shape_of-t7-in-Ok : goal.shape_of-t7-in-Ok
shape_of-t7-in-Ok c = c.read-r.auto.t7

pub shape_of-t8-in-Ok : goal.shape_of-t8-in-Ok
shape_of-t8-in-Ok c = c.read-r.auto.t8

pub shape_of-t9-in-Ok : goal.shape_of-t9-in-Ok
shape_of-t9-in-Ok c = c.read-r.auto.t9

pub shape_of-t10-in-Ok : goal.shape_of-t10-in-Ok
shape_of-t10-in-Ok c = c.read-r.auto.t10

pub shape_of-i1-in-Ok : goal.shape_of-i1-in-Ok
shape_of-i1-in-Ok c = c.read-r.auto.i1

pub shape_of-i7-in-Ok : goal.shape_of-i7-in-Ok
shape_of-i7-in-Ok c = c.read-r.auto.i7

pub shape_of-t15-in-Ok : goal.shape_of-t15-in-Ok
shape_of-t15-in-Ok c = c.read-r.auto.t15

pub shape_of-t16-in-Ok : goal.shape_of-t16-in-Ok
shape_of-t16-in-Ok c = c.read-r.auto.t16

pub shape_of-t17-in-Ok : goal.shape_of-t17-in-Ok
shape_of-t17-in-Ok c = c.read-r.auto.t17

pub returns-in-Ok : goal.returns-in-Ok
returns-in-Ok c = accepted_judged _ _ _ _ _ c.read-r.ensures.is _ c.in-Ok.is _ c.judge-j.ensures

pub shape_of-t1-in-Err : goal.shape_of-t1-in-Err
shape_of-t1-in-Err c = c.read-r.auto.t1

pub shape_of-t2-in-Err : goal.shape_of-t2-in-Err
shape_of-t2-in-Err c = c.read-r.auto.t2

pub shape_of-t3-in-Err : goal.shape_of-t3-in-Err
shape_of-t3-in-Err c = c.read-r.auto.t3

pub shape_of-t4-in-Err : goal.shape_of-t4-in-Err
shape_of-t4-in-Err c = c.read-r.auto.t4

pub shape_of-t5-in-Err : goal.shape_of-t5-in-Err
shape_of-t5-in-Err c = c.read-r.auto.t5

pub shape_of-t6-in-Err : goal.shape_of-t6-in-Err
shape_of-t6-in-Err c = c.read-r.auto.t6

pub shape_of-t7-in-Err : goal.shape_of-t7-in-Err
shape_of-t7-in-Err c = c.read-r.auto.t7

pub shape_of-t8-in-Err : goal.shape_of-t8-in-Err
shape_of-t8-in-Err c = c.read-r.auto.t8

pub shape_of-t9-in-Err : goal.shape_of-t9-in-Err
shape_of-t9-in-Err c = c.read-r.auto.t9

pub shape_of-t10-in-Err : goal.shape_of-t10-in-Err
shape_of-t10-in-Err c = c.read-r.auto.t10

pub shape_of-i1-in-Err : goal.shape_of-i1-in-Err
shape_of-i1-in-Err c = c.read-r.auto.i1

pub shape_of-i7-in-Err : goal.shape_of-i7-in-Err
shape_of-i7-in-Err c = c.read-r.auto.i7

pub shape_of-t15-in-Err : goal.shape_of-t15-in-Err
shape_of-t15-in-Err c = c.read-r.auto.t15

pub shape_of-t16-in-Err : goal.shape_of-t16-in-Err
shape_of-t16-in-Err c = c.read-r.auto.t16

pub shape_of-t17-in-Err : goal.shape_of-t17-in-Err
shape_of-t17-in-Err c = c.read-r.auto.t17

pub returns-in-Err : goal.returns-in-Err
returns-in-Err c = rejected_judged _ _ _ _ _ c.read-r.ensures.is _ c.in-Err.is
