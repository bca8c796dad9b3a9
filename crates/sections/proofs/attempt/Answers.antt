-- `sections::attempt`.
use mathlib.Core.Path.{refl}
use Rattle.sections.proofs.Laws.{fit_here, fit_near, begun_near, none_tracked, none_given, attempt_fit, attempt_unfit}
use Rattle.sections.proofs.attempt.Goals as goal

pub enum_told-1 : goal.enum_told-1
enum_told-1 c = c.in-Ok.in-Ok-own.keys1

pub sections-requires : goal.sections-requires
sections-requires c =
    (fit_here _ _ c.admit-a.ensures.short c.in-Ok.is _ _ c.begin-s.ensures, none_tracked _ 0 3 0 _ _ _ _ refl c.begin-s.ensures, none_tracked _ 6 5 0 _ _ _ _ refl c.begin-s.ensures, none_given _ _ _ _ _ _ _ _ c.begin-s.ensures)

pub enum_known-a : goal.enum_known-a
enum_known-a c = c.in-Err.in-Err-own.keys2

pub shape_of-t1 : goal.shape_of-t1
shape_of-t1 c = c.sections.auto.t1

pub shape_of-t2 : goal.shape_of-t2
shape_of-t2 c = c.sections.auto.t2

pub shape_of-t3 : goal.shape_of-t3
shape_of-t3 c = c.sections.auto.t3

pub shape_of-t4 : goal.shape_of-t4
shape_of-t4 c = c.sections.auto.t4

pub shape_of-t5 : goal.shape_of-t5
shape_of-t5 c = c.sections.auto.t5

pub shape_of-t6 : goal.shape_of-t6
shape_of-t6 c = c.sections.auto.t6

pub shape_of-t7 : goal.shape_of-t7
shape_of-t7 c = c.sections.auto.t7

pub shape_of-t8 : goal.shape_of-t8
shape_of-t8 c = c.sections.auto.t8

pub shape_of-t9 : goal.shape_of-t9
shape_of-t9 c = c.sections.auto.t9

pub shape_of-t10 : goal.shape_of-t10
shape_of-t10 c = c.sections.auto.t10

pub shape_of-t15 : goal.shape_of-t15
shape_of-t15 c = c.sections.auto.t15

pub shape_of-t16 : goal.shape_of-t16
shape_of-t16 c = c.sections.auto.t16

pub shape_of-t17 : goal.shape_of-t17
shape_of-t17 c = c.sections.auto.t17

pub shape_of-f1 : goal.shape_of-f1
shape_of-f1 c = c.sections.auto.f1

pub shape_of-f7 : goal.shape_of-f7
shape_of-f7 c = c.sections.auto.f7

pub shape_of-fx : goal.shape_of-fx
shape_of-fx c = c.sections.auto.fx

pub returns-in-Ok : goal.returns-in-Ok
returns-in-Ok c =
    record {
      is = attempt_fit _ _ _ _ c.begin-s.ensures _ _ refl _ c.admit-a.ensures.is _ c.in-Ok.is c.sections.ensures.is;
      near = fit_near _ _ c.admit-a.ensures.short c.in-Ok.is _ _ c.sections.ensures.moved;
      indexed = c.sections.ensures.indexed;
    }

pub returns-in-Err : goal.returns-in-Err
returns-in-Err c =
    record {
      is = attempt_unfit _ _ _ _ c.begin-s.ensures _ _ refl _ c.admit-a.ensures.is _ c.in-Err.is;
      near = begun_near _ _ c.begin-s.ensures;
      indexed = (none_tracked _ 0 3 0 _ _ _ _ refl c.begin-s.ensures, none_tracked _ 6 5 0 _ _ _ _ refl c.begin-s.ensures);
    }
