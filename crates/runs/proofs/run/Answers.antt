-- `runs::run`: the sections, their end, and the symbols' rows.
use mathlib.Core.Path.{◌∙◌}
use Rattle.reader.proofs.Laws.{run_filled}
use Rattle.runs.proofs.run.Goals as goal

pub finish-q-requires : goal.finish-q-requires
finish-q-requires c = (c.attempt-r.ensures.near, c.attempt-r.ensures.indexed.0, c.attempt-r.ensures.indexed.1)

pub fill-requires : goal.fill-requires
fill-requires c = c.finish-q.ensures.indexed

pub shape_of-t1 : goal.shape_of-t1
shape_of-t1 c = c.finish-q.auto.t1 ∙ c.attempt-r.auto.t1

pub shape_of-t2 : goal.shape_of-t2
shape_of-t2 c = c.finish-q.auto.t2 ∙ c.attempt-r.auto.t2

pub shape_of-t3 : goal.shape_of-t3
shape_of-t3 c = c.finish-q.auto.t3 ∙ c.attempt-r.auto.t3

pub shape_of-t4 : goal.shape_of-t4
shape_of-t4 c = c.finish-q.auto.t4 ∙ c.attempt-r.auto.t4

pub shape_of-t5 : goal.shape_of-t5
shape_of-t5 c = c.finish-q.auto.t5 ∙ c.attempt-r.auto.t5

pub shape_of-t6 : goal.shape_of-t6
shape_of-t6 c = c.finish-q.auto.t6 ∙ c.attempt-r.auto.t6

pub shape_of-t7 : goal.shape_of-t7
shape_of-t7 c = c.finish-q.auto.t7 ∙ c.attempt-r.auto.t7

pub shape_of-t8 : goal.shape_of-t8
shape_of-t8 c = c.finish-q.auto.t8 ∙ c.attempt-r.auto.t8

pub shape_of-t9 : goal.shape_of-t9
shape_of-t9 c = c.fill.auto.t9 ∙ c.finish-q.auto.t9 ∙ c.attempt-r.auto.t9

pub shape_of-t10 : goal.shape_of-t10
shape_of-t10 c = c.attempt-r.auto.t10

pub shape_of-t15 : goal.shape_of-t15
shape_of-t15 c = c.finish-q.auto.t15 ∙ c.attempt-r.auto.t15

pub shape_of-t16 : goal.shape_of-t16
shape_of-t16 c = c.finish-q.auto.t16 ∙ c.attempt-r.auto.t16

pub shape_of-t17 : goal.shape_of-t17
shape_of-t17 c = c.finish-q.auto.t17 ∙ c.attempt-r.auto.t17

pub shape_of-f1 : goal.shape_of-f1
shape_of-f1 c = c.attempt-r.auto.f1

pub shape_of-f7 : goal.shape_of-f7
shape_of-f7 c = c.attempt-r.auto.f7

pub shape_of-fx : goal.shape_of-fx
shape_of-fx c = c.attempt-r.auto.fx

pub returns : goal.returns
returns c = run_filled _ _ _ _ _ _ _ c.attempt-r.ensures.is c.finish-q.ensures.is c.fill.ensures
