-- `sections::sections`: declarations, then the rest.
use mathlib.Core.Path.{◌∙◌}
use Rattle.grammar.proofs.Steps.{passed_here, passed_fits, passed_on}
use Rattle.sections.proofs.Laws.{sections_going, sections_done, sections_refused}
use Rattle.sections.proofs.Spares.{by_declarations}
use Rattle.sections.proofs.sections.Goals as goal

pub declarations-r-requires : goal.declarations-r-requires
declarations-r-requires c = (c.requires.0, c.requires.1, c.requires.3)

pub enum_told-1 : goal.enum_told-1
enum_told-1 c = c.in-Going.in-Going-own.keys1

pub overflow_cast-result : goal.overflow_cast-result
overflow_cast-result c = passed_fits _ _ _ c.requires.0 c.declarations-r.ensures.moved

pub enum_told-in-Done : goal.enum_told-in-Done
enum_told-in-Done c = c.in-Done.in-Done-own.keys2

pub rest-requires : goal.rest-requires
rest-requires c =
    (passed_here _ _ _ c.requires.0 c.declarations-r.ensures.moved, c.declarations-r.ensures.indexed.0, by_declarations _ _ _ _ _ _ _ _ c.declarations-r.ensures.is c.requires.2)

pub enum_known-a : goal.enum_known-a
enum_known-a c = c.in-Refused.in-Refused-own.keys3

pub shape_of-t1-in-Going : goal.shape_of-t1-in-Going
shape_of-t1-in-Going c = c.declarations-r.auto.t1

pub shape_of-t2-in-Going : goal.shape_of-t2-in-Going
shape_of-t2-in-Going c = c.declarations-r.auto.t2

pub shape_of-t3-in-Going : goal.shape_of-t3-in-Going
shape_of-t3-in-Going c = c.declarations-r.auto.t3

pub shape_of-t4-in-Going : goal.shape_of-t4-in-Going
shape_of-t4-in-Going c = c.declarations-r.auto.t4

pub shape_of-t5-in-Going : goal.shape_of-t5-in-Going
shape_of-t5-in-Going c = c.declarations-r.auto.t5

pub shape_of-t6-in-Going : goal.shape_of-t6-in-Going
shape_of-t6-in-Going c = c.declarations-r.auto.t6

pub shape_of-t10-in-Going : goal.shape_of-t10-in-Going
shape_of-t10-in-Going c = c.declarations-r.auto.t10

pub shape_of-t15-in-Going : goal.shape_of-t15-in-Going
shape_of-t15-in-Going c = c.declarations-r.auto.t15

pub shape_of-t16-in-Going : goal.shape_of-t16-in-Going
shape_of-t16-in-Going c = c.declarations-r.auto.t16

pub shape_of-t17-in-Going : goal.shape_of-t17-in-Going
shape_of-t17-in-Going c = c.declarations-r.auto.t17

pub shape_of-f1-in-Going : goal.shape_of-f1-in-Going
shape_of-f1-in-Going c = c.declarations-r.auto.i1

pub shape_of-fx-in-Going : goal.shape_of-fx-in-Going
shape_of-fx-in-Going c = c.declarations-r.auto.fx

pub returns-in-Going : goal.returns-in-Going
returns-in-Going c =
    record {
      is = sections_going _ _ _ _ c.declarations-r.ensures.is c.in-Going.is;
      moved = c.declarations-r.ensures.moved;
      indexed = (c.declarations-r.ensures.indexed.0, by_declarations _ _ _ _ _ _ _ _ c.declarations-r.ensures.is c.requires.2);
    }

pub shape_of-t1-in-Done : goal.shape_of-t1-in-Done
shape_of-t1-in-Done c = c.rest.auto.t1 ∙ c.declarations-r.auto.t1

pub shape_of-t2-in-Done : goal.shape_of-t2-in-Done
shape_of-t2-in-Done c = c.declarations-r.auto.t2

pub shape_of-t3-in-Done : goal.shape_of-t3-in-Done
shape_of-t3-in-Done c = c.declarations-r.auto.t3

pub shape_of-t4-in-Done : goal.shape_of-t4-in-Done
shape_of-t4-in-Done c = c.declarations-r.auto.t4

pub shape_of-t5-in-Done : goal.shape_of-t5-in-Done
shape_of-t5-in-Done c = c.declarations-r.auto.t5

pub shape_of-t6-in-Done : goal.shape_of-t6-in-Done
shape_of-t6-in-Done c = c.declarations-r.auto.t6

pub shape_of-t7 : goal.shape_of-t7
shape_of-t7 c = c.rest.auto.t7

pub shape_of-t8 : goal.shape_of-t8
shape_of-t8 c = c.rest.auto.t8

pub shape_of-t9 : goal.shape_of-t9
shape_of-t9 c = c.rest.auto.t9

pub shape_of-t10-in-Done : goal.shape_of-t10-in-Done
shape_of-t10-in-Done c = c.declarations-r.auto.t10

pub shape_of-t15-in-Done : goal.shape_of-t15-in-Done
shape_of-t15-in-Done c = c.declarations-r.auto.t15

pub shape_of-t16-in-Done : goal.shape_of-t16-in-Done
shape_of-t16-in-Done c = c.declarations-r.auto.t16

pub shape_of-t17-in-Done : goal.shape_of-t17-in-Done
shape_of-t17-in-Done c = c.declarations-r.auto.t17

pub shape_of-f1-in-Done : goal.shape_of-f1-in-Done
shape_of-f1-in-Done c = c.rest.auto.f1 ∙ c.declarations-r.auto.i1

pub shape_of-f7 : goal.shape_of-f7
shape_of-f7 c = c.rest.auto.f7

pub shape_of-fx-in-Done : goal.shape_of-fx-in-Done
shape_of-fx-in-Done c = c.declarations-r.auto.fx

pub returns-in-Done : goal.returns-in-Done
returns-in-Done c =
    record {
      is = sections_done _ _ _ _ c.declarations-r.ensures.is _ c.in-Done.is c.rest.ensures.is;
      moved = passed_on _ _ _ _ c.declarations-r.ensures.moved c.rest.ensures.moved;
      indexed = c.rest.ensures.indexed;
    }

pub shape_of-t1-in-Refused : goal.shape_of-t1-in-Refused
shape_of-t1-in-Refused c = c.declarations-r.auto.t1

pub shape_of-t2-in-Refused : goal.shape_of-t2-in-Refused
shape_of-t2-in-Refused c = c.declarations-r.auto.t2

pub shape_of-t3-in-Refused : goal.shape_of-t3-in-Refused
shape_of-t3-in-Refused c = c.declarations-r.auto.t3

pub shape_of-t4-in-Refused : goal.shape_of-t4-in-Refused
shape_of-t4-in-Refused c = c.declarations-r.auto.t4

pub shape_of-t5-in-Refused : goal.shape_of-t5-in-Refused
shape_of-t5-in-Refused c = c.declarations-r.auto.t5

pub shape_of-t6-in-Refused : goal.shape_of-t6-in-Refused
shape_of-t6-in-Refused c = c.declarations-r.auto.t6

pub shape_of-t10-in-Refused : goal.shape_of-t10-in-Refused
shape_of-t10-in-Refused c = c.declarations-r.auto.t10

pub shape_of-t15-in-Refused : goal.shape_of-t15-in-Refused
shape_of-t15-in-Refused c = c.declarations-r.auto.t15

pub shape_of-t16-in-Refused : goal.shape_of-t16-in-Refused
shape_of-t16-in-Refused c = c.declarations-r.auto.t16

pub shape_of-t17-in-Refused : goal.shape_of-t17-in-Refused
shape_of-t17-in-Refused c = c.declarations-r.auto.t17

pub shape_of-f1-in-Refused : goal.shape_of-f1-in-Refused
shape_of-f1-in-Refused c = c.declarations-r.auto.i1

pub shape_of-fx-in-Refused : goal.shape_of-fx-in-Refused
shape_of-fx-in-Refused c = c.declarations-r.auto.fx

pub returns-in-Refused : goal.returns-in-Refused
returns-in-Refused c =
    record {
      is = sections_refused _ _ _ _ c.declarations-r.ensures.is _ c.in-Refused.is;
      moved = c.declarations-r.ensures.moved;
      indexed = (c.declarations-r.ensures.indexed.0, by_declarations _ _ _ _ _ _ _ _ c.declarations-r.ensures.is c.requires.2);
    }
