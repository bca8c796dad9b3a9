-- `reader::clear_posix`: each slice by its own call.
use Rattle.reader.proofs.clear_posix.Goals as goal

pub shape_of-t15 : goal.shape_of-t15
shape_of-t15 c = c.zero.auto.t

pub shape_of-t16 : goal.shape_of-t16
shape_of-t16 c = c.zero-2.auto.t

pub shape_of-t17 : goal.shape_of-t17
shape_of-t17 c = c.zero-3.auto.t

pub returns : goal.returns
returns c = (c.zero.ensures, c.zero-2.ensures, c.zero-3.ensures)
