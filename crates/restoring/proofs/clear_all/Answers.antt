-- `restoring::clear_all`: each slice by its own call.
use Rattle.restoring.proofs.clear_all.Goals as goal

pub shape_of-src : goal.shape_of-src
shape_of-src c = c.zero.auto.out

pub shape_of-t1 : goal.shape_of-t1
shape_of-t1 c = c.clear.auto.t1

pub shape_of-t2 : goal.shape_of-t2
shape_of-t2 c = c.clear.auto.t2

pub shape_of-t3 : goal.shape_of-t3
shape_of-t3 c = c.clear.auto.t3

pub shape_of-t4 : goal.shape_of-t4
shape_of-t4 c = c.clear.auto.t4

pub shape_of-t5 : goal.shape_of-t5
shape_of-t5 c = c.clear.auto.t5

pub shape_of-t6 : goal.shape_of-t6
shape_of-t6 c = c.clear.auto.t6

pub shape_of-t7 : goal.shape_of-t7
shape_of-t7 c = c.clear.auto.t7

pub shape_of-t8 : goal.shape_of-t8
shape_of-t8 c = c.clear.auto.t8

pub shape_of-t9 : goal.shape_of-t9
shape_of-t9 c = c.clear.auto.t9

pub shape_of-t10 : goal.shape_of-t10
shape_of-t10 c = c.zero-2.auto.t

pub shape_of-i1 : goal.shape_of-i1
shape_of-i1 c = c.zero-3.auto.t

pub shape_of-i7 : goal.shape_of-i7
shape_of-i7 c = c.zero-4.auto.t

pub shape_of-t15 : goal.shape_of-t15
shape_of-t15 c = c.clear_posix.auto.t15

pub shape_of-t16 : goal.shape_of-t16
shape_of-t16 c = c.clear_posix.auto.t16

pub shape_of-t17 : goal.shape_of-t17
shape_of-t17 c = c.clear_posix.auto.t17

pub returns : goal.returns
returns c =
    (c.zero.ensures, c.zero-3.ensures, c.zero-4.ensures, c.clear.ensures.0, c.clear.ensures.1, c.clear.ensures.2, c.clear.ensures.3, c.clear.ensures.4, c.clear.ensures.5, c.clear.ensures.6, c.clear.ensures.7, c.clear.ensures.8, c.zero-2.ensures, c.clear_posix.ensures.0, c.clear_posix.ensures.1, c.clear_posix.ensures.2)
