-- `usage::mark`: validation first, and then the marking of a valid reading.
use Rattle.std.specs.Prelude.{Ok, Err}
use mathlib.Core.Path.{sym, ◌∙◌}
use Rattle.scan.proofs.Tuples.{err_is}
use Rattle.usage.specs.declared.MarkingError.TheVariants.{MarksNoWords}
use Rattle.usage.proofs.Outcome.{fair_valid, names_valid, marked_valid, marked_unsound, marked_flaw}
use Rattle.usage.proofs.mark.Goals as goal

pub mark_used-requires : goal.mark_used-requires
mark_used-requires c =
    let n = names_valid c.args.src.now c.args.c c.args.g ((let a = c.args in
    record { t1 = a.t1.now; t2 = a.t2.now; t3 = a.t3.now; t4 = a.t4.now; t5 = a.t5.now; t6 = a.t6.now; t7 = a.t7.now; t8 = a.t8.now; t9 = a.t9.now; t10 = a.t10.now })) ((record { tokens = c.args.i1.now; rules = c.args.i7.now })) ((sym c.validate.ensures ∙ c.in-Ok.is)) in (
      fair_valid c.args.src.now c.args.c c.args.g ((let a = c.args in
          record { t1 = a.t1.now; t2 = a.t2.now; t3 = a.t3.now; t4 = a.t4.now; t5 = a.t5.now; t6 = a.t6.now; t7 = a.t7.now; t8 = a.t8.now; t9 = a.t9.now; t10 = a.t10.now })) ((record { tokens = c.args.i1.now; rules = c.args.i7.now })) ((sym c.validate.ensures ∙ c.in-Ok.is)),
      n.0,
      n.1,
    )

pub returns-then-mark_used : goal.returns-then-mark_used
returns-then-mark_used c =
    marked_valid c.args.src.now c.args.c c.args.g ((let a = c.args in
    record { t1 = a.t1.now; t2 = a.t2.now; t3 = a.t3.now; t4 = a.t4.now; t5 = a.t5.now; t6 = a.t6.now; t7 = a.t7.now; t8 = a.t8.now; t9 = a.t9.now; t10 = a.t10.now })) ((record { tokens = c.args.i1.now; rules = c.args.i7.now })) (Ok tt) c.args.work.now _ ((sym c.validate.ensures ∙ c.in-Ok.is)) (rw c.if-mark_used.true at c.mark_used.ensures)

pub returns-else-mark_used : goal.returns-else-mark_used
returns-else-mark_used c =
    marked_valid c.args.src.now c.args.c c.args.g ((let a = c.args in
    record { t1 = a.t1.now; t2 = a.t2.now; t3 = a.t3.now; t4 = a.t4.now; t5 = a.t5.now; t6 = a.t6.now; t7 = a.t7.now; t8 = a.t8.now; t9 = a.t9.now; t10 = a.t10.now })) ((record { tokens = c.args.i1.now; rules = c.args.i7.now })) (Err MarksNoWords) c.args.work.now _ ((sym c.validate.ensures ∙ c.in-Ok.is)) (rw c.if-mark_used.false at c.mark_used.ensures)

pub returns-in-Err-UnsoundTables : goal.returns-in-Err-UnsoundTables
returns-in-Err-UnsoundTables c =
    marked_unsound c.args.src.now c.args.c c.args.g ((let a = c.args in
    record { t1 = a.t1.now; t2 = a.t2.now; t3 = a.t3.now; t4 = a.t4.now; t5 = a.t5.now; t6 = a.t6.now; t7 = a.t7.now; t8 = a.t8.now; t9 = a.t9.now; t10 = a.t10.now })) ((record { tokens = c.args.i1.now; rules = c.args.i7.now })) c.args.work.now _ (sym c.validate.ensures ∙ (err_is c.in-Err-UnsoundTables.is c.in-Err-UnsoundTables.field-0-is)) c.zero.ensures

pub returns-in-Err-Invalid : goal.returns-in-Err-Invalid
returns-in-Err-Invalid c =
    rw c.in-Err-Invalid.field-0-is (marked_flaw c.args.src.now c.args.c c.args.g ((let a = c.args in
    record { t1 = a.t1.now; t2 = a.t2.now; t3 = a.t3.now; t4 = a.t4.now; t5 = a.t5.now; t6 = a.t6.now; t7 = a.t7.now; t8 = a.t8.now; t9 = a.t9.now; t10 = a.t10.now })) ((record { tokens = c.args.i1.now; rules = c.args.i7.now })) _ c.args.work.now _ (sym c.validate.ensures ∙ (err_is c.in-Err-Invalid.is c.in-Err-Invalid.field-0-is)) c.zero-in-Err-Invalid.ensures)
