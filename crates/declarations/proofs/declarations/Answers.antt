-- `declarations::declarations`: spacing, then the declarations.
use Rattle.grammar.proofs.Steps.{gap_passed, passed_here, passed_on, still}
use Rattle.declarations.proofs.Laws.{all_from, all_refused}
use Rattle.declarations.proofs.declarations.Goals as goal

pub declaration_run-requires : goal.declaration_run-requires
declaration_run-requires c = (passed_here _ _ _ c.requires.0 (gap_passed _ _ _ _ _ c.pass_gap.ensures.moved c.in-Ok.is), c.requires.1, c.requires.2)

pub shape_of-t1 : goal.shape_of-t1
shape_of-t1 c = c.declaration_run.auto.t1

pub shape_of-t2 : goal.shape_of-t2
shape_of-t2 c = c.declaration_run.auto.t2

pub shape_of-t3 : goal.shape_of-t3
shape_of-t3 c = c.declaration_run.auto.t3

pub shape_of-t4 : goal.shape_of-t4
shape_of-t4 c = c.declaration_run.auto.t4

pub shape_of-t5 : goal.shape_of-t5
shape_of-t5 c = c.declaration_run.auto.t5

pub shape_of-t6 : goal.shape_of-t6
shape_of-t6 c = c.declaration_run.auto.t6

pub shape_of-t10 : goal.shape_of-t10
shape_of-t10 c = c.declaration_run.auto.t10

pub shape_of-t15 : goal.shape_of-t15
shape_of-t15 c = c.declaration_run.auto.t15

pub shape_of-t16 : goal.shape_of-t16
shape_of-t16 c = c.declaration_run.auto.t16

pub shape_of-t17 : goal.shape_of-t17
shape_of-t17 c = c.declaration_run.auto.t17

pub shape_of-i1 : goal.shape_of-i1
shape_of-i1 c = c.declaration_run.auto.i1

pub shape_of-fx : goal.shape_of-fx
shape_of-fx c = c.declaration_run.auto.fx

pub returns-in-Ok : goal.returns-in-Ok
returns-in-Ok c =
    let e = c.in-Ok.is in
    record {
      is = all_from _ _ ((record { t1 = c.args.t1.now; t2 = c.args.t2.now; t3 = c.args.t3.now; t4 = c.args.t4.now; t5 = c.args.t5.now; t6 = c.args.t6.now; t10 = c.args.t10.now; t15 = c.args.t15.now; t16 = c.args.t16.now; t17 = c.args.t17.now })) _ c.pass_gap.ensures.is _ _ _ e c.declaration_run.ensures.is;
      moved = passed_on _ _ _ _ (gap_passed _ _ _ _ _ c.pass_gap.ensures.moved e) c.declaration_run.ensures.moved;
      indexed = c.declaration_run.ensures.indexed;
    }

pub returns-in-Err : goal.returns-in-Err
returns-in-Err c =
    record {
      is = all_refused _ _ ((record { t1 = c.args.t1.now; t2 = c.args.t2.now; t3 = c.args.t3.now; t4 = c.args.t4.now; t5 = c.args.t5.now; t6 = c.args.t6.now; t10 = c.args.t10.now; t15 = c.args.t15.now; t16 = c.args.t16.now; t17 = c.args.t17.now })) _ c.pass_gap.ensures.is _ c.in-Err.is;
      moved = still _ _ c.requires.0;
      indexed = (c.requires.1, c.requires.2);
    }
