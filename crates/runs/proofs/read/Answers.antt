-- `runs::read`: tables of zeros, the run, and the indexes.
use mathlib.Core.Path.{◌∙◌}
use Rattle.reader.proofs.Laws.{zeroed_again, read_whole}
use Rattle.runs.proofs.read.Goals as goal

pub enter_indexes-requires : goal.enter_indexes-requires
enter_indexes-requires c = (zeroed_again c.args.i1.now _ c.zero-2.ensures, zeroed_again c.args.i7.now _ c.zero-3.ensures)

pub shape_of-t1 : goal.shape_of-t1
shape_of-t1 c = c.run_sized-r.auto.t1 ∙ c.clear.auto.t1

pub shape_of-t2 : goal.shape_of-t2
shape_of-t2 c = c.run_sized-r.auto.t2 ∙ c.clear.auto.t2

pub shape_of-t3 : goal.shape_of-t3
shape_of-t3 c = c.run_sized-r.auto.t3 ∙ c.clear.auto.t3

pub shape_of-t4 : goal.shape_of-t4
shape_of-t4 c = c.run_sized-r.auto.t4 ∙ c.clear.auto.t4

pub shape_of-t5 : goal.shape_of-t5
shape_of-t5 c = c.run_sized-r.auto.t5 ∙ c.clear.auto.t5

pub shape_of-t6 : goal.shape_of-t6
shape_of-t6 c = c.run_sized-r.auto.t6 ∙ c.clear.auto.t6

pub shape_of-t7 : goal.shape_of-t7
shape_of-t7 c = c.run_sized-r.auto.t7 ∙ c.clear.auto.t7

pub shape_of-t8 : goal.shape_of-t8
shape_of-t8 c = c.run_sized-r.auto.t8 ∙ c.clear.auto.t8

pub shape_of-t9 : goal.shape_of-t9
shape_of-t9 c = c.run_sized-r.auto.t9 ∙ c.clear.auto.t9

pub shape_of-t10 : goal.shape_of-t10
shape_of-t10 c = c.run_sized-r.auto.t10 ∙ c.zero.auto.t

pub shape_of-t15 : goal.shape_of-t15
shape_of-t15 c = c.run_sized-r.auto.t15 ∙ c.clear_posix.auto.t15

pub shape_of-t16 : goal.shape_of-t16
shape_of-t16 c = c.run_sized-r.auto.t16 ∙ c.clear_posix.auto.t16

pub shape_of-t17 : goal.shape_of-t17
shape_of-t17 c = c.run_sized-r.auto.t17 ∙ c.clear_posix.auto.t17

pub shape_of-i1 : goal.shape_of-i1
shape_of-i1 c = c.enter_indexes.auto.i1 ∙ c.zero-2.auto.t

pub shape_of-i7 : goal.shape_of-i7
shape_of-i7 c = c.enter_indexes.auto.i7 ∙ c.zero-3.auto.t

pub returns : goal.returns
returns c =
    record { is = read_whole _ _ _ _ _ _ _ _ _ _ _ (c.clear.ensures.0, c.clear.ensures.1, c.clear.ensures.2, c.clear.ensures.3, c.clear.ensures.4, c.clear.ensures.5, c.clear.ensures.6, c.clear.ensures.7, c.clear.ensures.8) (c.clear_posix.ensures.0, c.clear_posix.ensures.1, c.clear_posix.ensures.2) c.zero.ensures c.zero-2.ensures c.zero-3.ensures c.sizes_fit-sized.ensures c.run_sized-r.ensures c.enter_indexes.ensures.0 c.enter_indexes.ensures.1 }
