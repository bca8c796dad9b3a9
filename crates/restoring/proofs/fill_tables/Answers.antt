-- `restoring::fill_tables`: each table by its own call.
use native.Mathlib.Omega.{arith}
use Rattle.restoring.proofs.Laws.{tables_filled}
use Rattle.restoring.proofs.fill_tables.Goals as goal

pub fill_table-requires : goal.fill_table-requires
fill_table-requires c = (omega arith, c.requires.0 0 (omega arith), c.requires.1)

pub fill_table-requires-2 : goal.fill_table-requires-2
fill_table-requires-2 c = (omega arith, c.requires.0 1 (omega arith), c.requires.1)

pub fill_table-requires-3 : goal.fill_table-requires-3
fill_table-requires-3 c = (omega arith, c.requires.0 2 (omega arith), c.requires.1)

pub fill_table-requires-4 : goal.fill_table-requires-4
fill_table-requires-4 c = (omega arith, c.requires.0 3 (omega arith), c.requires.1)

pub fill_table-requires-5 : goal.fill_table-requires-5
fill_table-requires-5 c = (omega arith, c.requires.0 4 (omega arith), c.requires.1)

pub fill_table-requires-6 : goal.fill_table-requires-6
fill_table-requires-6 c = (omega arith, c.requires.0 5 (omega arith), c.requires.1)

pub fill_table-requires-7 : goal.fill_table-requires-7
fill_table-requires-7 c = (omega arith, c.requires.0 6 (omega arith), c.requires.1)

pub fill_table-requires-8 : goal.fill_table-requires-8
fill_table-requires-8 c = (omega arith, c.requires.0 7 (omega arith), c.requires.1)

pub fill_table-requires-9 : goal.fill_table-requires-9
fill_table-requires-9 c = (omega arith, c.requires.0 8 (omega arith), c.requires.1)

pub fill_table-requires-10 : goal.fill_table-requires-10
fill_table-requires-10 c = (omega arith, c.requires.0 9 (omega arith), c.requires.1)

pub fill_table-requires-11 : goal.fill_table-requires-11
fill_table-requires-11 c = (omega arith, c.requires.0 10 (omega arith), c.requires.1)

pub fill_table-requires-12 : goal.fill_table-requires-12
fill_table-requires-12 c = (omega arith, c.requires.0 11 (omega arith), c.requires.1)

pub fill_table-requires-13 : goal.fill_table-requires-13
fill_table-requires-13 c = (omega arith, c.requires.0 12 (omega arith), c.requires.1)

pub shape_of-t1 : goal.shape_of-t1
shape_of-t1 c = c.fill_table.auto.t

pub shape_of-t2 : goal.shape_of-t2
shape_of-t2 c = c.fill_table-2.auto.t

pub shape_of-t3 : goal.shape_of-t3
shape_of-t3 c = c.fill_table-3.auto.t

pub shape_of-t4 : goal.shape_of-t4
shape_of-t4 c = c.fill_table-4.auto.t

pub shape_of-t5 : goal.shape_of-t5
shape_of-t5 c = c.fill_table-5.auto.t

pub shape_of-t6 : goal.shape_of-t6
shape_of-t6 c = c.fill_table-6.auto.t

pub shape_of-t7 : goal.shape_of-t7
shape_of-t7 c = c.fill_table-7.auto.t

pub shape_of-t8 : goal.shape_of-t8
shape_of-t8 c = c.fill_table-8.auto.t

pub shape_of-t9 : goal.shape_of-t9
shape_of-t9 c = c.fill_table-9.auto.t

pub shape_of-t10 : goal.shape_of-t10
shape_of-t10 c = c.fill_table-10.auto.t

pub shape_of-t15 : goal.shape_of-t15
shape_of-t15 c = c.fill_table-11.auto.t

pub shape_of-t16 : goal.shape_of-t16
shape_of-t16 c = c.fill_table-12.auto.t

pub shape_of-t17 : goal.shape_of-t17
shape_of-t17 c = c.fill_table-13.auto.t

pub returns : goal.returns
returns c =
    tables_filled _ _ _ _ _
    c.fill_table.ensures
    c.fill_table-2.ensures
    c.fill_table-3.ensures
    c.fill_table-4.ensures
    c.fill_table-5.ensures
    c.fill_table-6.ensures
    c.fill_table-7.ensures
    c.fill_table-8.ensures
    c.fill_table-9.ensures
    c.fill_table-10.ensures
    c.fill_table-11.ensures
    c.fill_table-12.ensures
    c.fill_table-13.ensures
