-- `reader::finish`.
use mathlib.Core.Path.{refl}
use Rattle.reader.proofs.Laws.{finish_going, finish_done, finish_refused, ended_tracked, stopped_tracked}
use Rattle.reader.proofs.finish.Goals as goal

pub enum_told-1 : goal.enum_told-1
enum_told-1 c = c.in-Going.in-Going-own.keys1

pub ended-requires : goal.ended-requires
ended-requires c = c.requires.0

pub enum_told-in-Done : goal.enum_told-in-Done
enum_told-in-Done c = c.in-Done.in-Done-own.keys2

pub ended-requires-in-Done : goal.ended-requires-in-Done
ended-requires-in-Done c = c.requires.0

pub enum_known-a : goal.enum_known-a
enum_known-a c = c.in-Refused.in-Refused-own.keys3

pub returns-in-Going : goal.returns-in-Going
returns-in-Going c =
    record {
      is = finish_going _ _ _ _ c.in-Going.is c.ended.ensures;
      indexed = (ended_tracked _ 0 3 0 _ _ _ _ _ c.ended.ensures c.requires.1, ended_tracked _ 6 5 0 _ _ _ _ _ c.ended.ensures c.requires.2);
    }

pub returns-in-Done : goal.returns-in-Done
returns-in-Done c =
    record {
      is = finish_done _ _ _ _ c.in-Done.is c.ended-in-Done.ensures;
      indexed = (ended_tracked _ 0 3 0 _ _ _ _ _ c.ended-in-Done.ensures c.requires.1, ended_tracked _ 6 5 0 _ _ _ _ _ c.ended-in-Done.ensures c.requires.2);
    }

pub shape_of-t1 : goal.shape_of-t1
shape_of-t1 c = c.clear.auto.t1

pub shape_of-t2 : goal.shape_of-t2
shape_of-t2 c = c.clear.auto.t2

pub shape_of-t3 : goal.shape_of-t3
shape_of-t3 c = c.clear.auto.t3

pub shape_of-t4 : goal.shape_of-t4
shape_of-t4 c = c.clear.auto.t4

pub shape_of-t5 : goal.shape_of-t5
shape_of-t5 c = c.clear.auto.t5

pub shape_of-t6 : goal.shape_of-t6
shape_of-t6 c = c.clear.auto.t6

pub shape_of-t7 : goal.shape_of-t7
shape_of-t7 c = c.clear.auto.t7

pub shape_of-t8 : goal.shape_of-t8
shape_of-t8 c = c.clear.auto.t8

pub shape_of-t9 : goal.shape_of-t9
shape_of-t9 c = c.clear.auto.t9

pub shape_of-t15 : goal.shape_of-t15
shape_of-t15 c = c.clear_posix.auto.t15

pub shape_of-t16 : goal.shape_of-t16
shape_of-t16 c = c.clear_posix.auto.t16

pub shape_of-t17 : goal.shape_of-t17
shape_of-t17 c = c.clear_posix.auto.t17

pub returns-in-Refused : goal.returns-in-Refused
returns-in-Refused c =
    record {
      is = finish_refused _ _ _ _ _ _ c.in-Refused.is c.stopped.ensures (c.clear.ensures.0, c.clear.ensures.1, c.clear.ensures.2, c.clear.ensures.3, c.clear.ensures.4, c.clear.ensures.5, c.clear.ensures.6, c.clear.ensures.7, c.clear.ensures.8) (c.clear_posix.ensures.0, c.clear_posix.ensures.1, c.clear_posix.ensures.2) refl;
      indexed = (stopped_tracked _ 0 3 0 c.args.r.state _ _ _ _ refl c.stopped.ensures, stopped_tracked _ 6 5 0 c.args.r.state _ _ _ _ refl c.stopped.ensures);
    }
