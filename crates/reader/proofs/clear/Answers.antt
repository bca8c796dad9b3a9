-- `reader::clear`: each slice by its own call.
use Rattle.reader.proofs.clear.Goals as goal

pub shape_of-t1 : goal.shape_of-t1
shape_of-t1 c = c.zero.auto.t

pub shape_of-t2 : goal.shape_of-t2
shape_of-t2 c = c.zero-2.auto.t

pub shape_of-t3 : goal.shape_of-t3
shape_of-t3 c = c.zero-3.auto.t

pub shape_of-t4 : goal.shape_of-t4
shape_of-t4 c = c.zero-4.auto.t

pub shape_of-t5 : goal.shape_of-t5
shape_of-t5 c = c.zero-5.auto.t

pub shape_of-t6 : goal.shape_of-t6
shape_of-t6 c = c.zero-6.auto.t

pub shape_of-t7 : goal.shape_of-t7
shape_of-t7 c = c.zero-7.auto.t

pub shape_of-t8 : goal.shape_of-t8
shape_of-t8 c = c.zero-8.auto.t

pub shape_of-t9 : goal.shape_of-t9
shape_of-t9 c = c.zero-9.auto.t

pub returns : goal.returns
returns c = (
  c.zero.ensures,
  c.zero-2.ensures,
  c.zero-3.ensures,
  c.zero-4.ensures,
  c.zero-5.ensures,
  c.zero-6.ensures,
  c.zero-7.ensures,
  c.zero-8.ensures,
  c.zero-9.ensures,
)
