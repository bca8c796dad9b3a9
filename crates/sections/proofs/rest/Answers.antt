-- `sections::rest`: rules, then programs.
use Rattle.grammar.proofs.Steps.{passed_here, passed_on}
use Rattle.sections.proofs.Laws.{rest_going, rest_done, rest_refused}
use Rattle.sections.proofs.Spares.{by_programs}
use Rattle.sections.proofs.rest.Goals as goal

pub rules-r-requires : goal.rules-r-requires
rules-r-requires c = c.requires

pub enum_told-1 : goal.enum_told-1
enum_told-1 c = c.in-Going.in-Going-own.keys1

pub programs-requires : goal.programs-requires
programs-requires c = passed_here _ _ _ c.requires.0 c.rules-r.ensures.moved

pub enum_told-in-Done : goal.enum_told-in-Done
enum_told-in-Done c = c.in-Done.in-Done-own.keys2

pub enum_known-a : goal.enum_known-a
enum_known-a c = c.in-Refused.in-Refused-own.keys3

pub shape_of-t1-in-Going : goal.shape_of-t1-in-Going
shape_of-t1-in-Going c = c.rules-r.auto.t1

pub shape_of-t7-in-Going : goal.shape_of-t7-in-Going
shape_of-t7-in-Going c = c.rules-r.auto.t7

pub shape_of-t8-in-Going : goal.shape_of-t8-in-Going
shape_of-t8-in-Going c = c.rules-r.auto.t8

pub shape_of-t9-in-Going : goal.shape_of-t9-in-Going
shape_of-t9-in-Going c = c.rules-r.auto.t9

pub shape_of-f1-in-Going : goal.shape_of-f1-in-Going
shape_of-f1-in-Going c = c.rules-r.auto.i1

pub shape_of-f7-in-Going : goal.shape_of-f7-in-Going
shape_of-f7-in-Going c = c.rules-r.auto.i7

pub returns-in-Going : goal.returns-in-Going
returns-in-Going c =
    record {
      is = rest_going _ _ _ _ _ _ _ c.rules-r.ensures.is _ c.in-Going.is c.programs.ensures.is;
      moved = passed_on _ _ _ _ c.rules-r.ensures.moved c.programs.ensures.moved;
      indexed = (by_programs _ _ _ _ _ _ 0 3 0 c.programs.ensures.is c.rules-r.ensures.indexed.0, by_programs _ _ _ _ _ _ 6 5 0 c.programs.ensures.is c.rules-r.ensures.indexed.1);
    }

pub shape_of-t1-in-Done : goal.shape_of-t1-in-Done
shape_of-t1-in-Done c = c.rules-r.auto.t1

pub shape_of-t7-in-Done : goal.shape_of-t7-in-Done
shape_of-t7-in-Done c = c.rules-r.auto.t7

pub shape_of-t8-in-Done : goal.shape_of-t8-in-Done
shape_of-t8-in-Done c = c.rules-r.auto.t8

pub shape_of-t9-in-Done : goal.shape_of-t9-in-Done
shape_of-t9-in-Done c = c.rules-r.auto.t9

pub shape_of-f1-in-Done : goal.shape_of-f1-in-Done
shape_of-f1-in-Done c = c.rules-r.auto.i1

pub shape_of-f7-in-Done : goal.shape_of-f7-in-Done
shape_of-f7-in-Done c = c.rules-r.auto.i7

pub returns-in-Done : goal.returns-in-Done
returns-in-Done c =
    record {
      is = rest_done _ _ _ _ _ _ _ c.rules-r.ensures.is c.in-Done.is;
      moved = c.rules-r.ensures.moved;
      indexed = c.rules-r.ensures.indexed;
    }

pub shape_of-t1-in-Refused : goal.shape_of-t1-in-Refused
shape_of-t1-in-Refused c = c.rules-r.auto.t1

pub shape_of-t7-in-Refused : goal.shape_of-t7-in-Refused
shape_of-t7-in-Refused c = c.rules-r.auto.t7

pub shape_of-t8-in-Refused : goal.shape_of-t8-in-Refused
shape_of-t8-in-Refused c = c.rules-r.auto.t8

pub shape_of-t9-in-Refused : goal.shape_of-t9-in-Refused
shape_of-t9-in-Refused c = c.rules-r.auto.t9

pub shape_of-f1-in-Refused : goal.shape_of-f1-in-Refused
shape_of-f1-in-Refused c = c.rules-r.auto.i1

pub shape_of-f7-in-Refused : goal.shape_of-f7-in-Refused
shape_of-f7-in-Refused c = c.rules-r.auto.i7

pub returns-in-Refused : goal.returns-in-Refused
returns-in-Refused c =
    record {
      is = rest_refused _ _ _ _ _ _ _ c.rules-r.ensures.is _ c.in-Refused.is;
      moved = c.rules-r.ensures.moved;
      indexed = c.rules-r.ensures.indexed;
    }
