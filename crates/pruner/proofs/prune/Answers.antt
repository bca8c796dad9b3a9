-- `pruner::prune`: validation first, then the marking, and only then are rows moved.
use mathlib.Core.Path.{refl, sym, ◌∙◌}
use borrow.Author.Tests.{not-true, not-false}
use Rattle.scan.proofs.Tuples.{err_is}
use Rattle.usage.proofs.Outcome.{fair_valid, names_valid}
use Rattle.pruner.specs.Asked.{Changing}
use Rattle.pruner.proofs.Endings.{ends_unsound, ends_invalid, ends_no_words, stays_marked, ends_pruned, closable}
use Rattle.pruner.proofs.prune.Goals as goal

pub mark_staying-requires : goal.mark_staying-requires
mark_staying-requires c =
    let v = (sym c.validate.ensures ∙ c.in-Ok.is) in
    let n = names_valid c.args.src.now c.args.c c.args.g ((let a = c.args in
    record { t1 = a.t1.now; t2 = a.t2.now; t3 = a.t3.now; t4 = a.t4.now; t5 = a.t5.now; t6 = a.t6.now; t7 = a.t7.now; t8 = a.t8.now; t9 = a.t9.now; t10 = a.t10.now })) ((record { tokens = c.args.i1.now; rules = c.args.i7.now })) v in (
      fair_valid c.args.src.now c.args.c c.args.g ((let a = c.args in
          record { t1 = a.t1.now; t2 = a.t2.now; t3 = a.t3.now; t4 = a.t4.now; t5 = a.t5.now; t6 = a.t6.now; t7 = a.t7.now; t8 = a.t8.now; t9 = a.t9.now; t10 = a.t10.now })) ((record { tokens = c.args.i1.now; rules = c.args.i7.now })) v,
      n.0,
      n.1,
    )

pub shape_of-t1-then-not-mark_staying : goal.shape_of-t1-then-not-mark_staying
shape_of-t1-then-not-mark_staying c = refl

pub shape_of-t3-then-not-mark_staying : goal.shape_of-t3-then-not-mark_staying
shape_of-t3-then-not-mark_staying c = refl

pub shape_of-t5-then-not-mark_staying : goal.shape_of-t5-then-not-mark_staying
shape_of-t5-then-not-mark_staying c = refl

pub shape_of-t7-then-not-mark_staying : goal.shape_of-t7-then-not-mark_staying
shape_of-t7-then-not-mark_staying c = refl

pub shape_of-t8-then-not-mark_staying : goal.shape_of-t8-then-not-mark_staying
shape_of-t8-then-not-mark_staying c = refl

pub shape_of-t9-then-not-mark_staying : goal.shape_of-t9-then-not-mark_staying
shape_of-t9-then-not-mark_staying c = refl

pub shape_of-i1-then-not-mark_staying : goal.shape_of-i1-then-not-mark_staying
shape_of-i1-then-not-mark_staying c = refl

pub shape_of-i7-then-not-mark_staying : goal.shape_of-i7-then-not-mark_staying
shape_of-i7-then-not-mark_staying c = refl

pub shape_of-work-then-not-mark_staying : goal.shape_of-work-then-not-mark_staying
shape_of-work-then-not-mark_staying c = c.mark_staying.auto.w

pub returns-then-not-mark_staying : goal.returns-then-not-mark_staying
returns-then-not-mark_staying c =
    ends_no_words c.args.src.now c.args.c c.args.g ((let a = c.args in
    record { t1 = a.t1.now; t2 = a.t2.now; t3 = a.t3.now; t4 = a.t4.now; t5 = a.t5.now; t6 = a.t6.now; t7 = a.t7.now; t8 = a.t8.now; t9 = a.t9.now; t10 = a.t10.now })) ((record { tokens = c.args.i1.now; rules = c.args.i7.now })) c.args.work.now c.mark_staying.new.w ((sym c.validate.ensures ∙ c.in-Ok.is)) c.mark_staying.result c.mark_staying.ensures (not-true c.mark_staying.result c.if-not-mark_staying.true-raw)

pub close_all-d-requires : goal.close_all-d-requires
close_all-d-requires c =
    closable c.args.src.now c.args.c c.args.g ((let a = c.args in
    record { t1 = a.t1.now; t2 = a.t2.now; t3 = a.t3.now; t4 = a.t4.now; t5 = a.t5.now; t6 = a.t6.now; t7 = a.t7.now; t8 = a.t8.now; t9 = a.t9.now; t10 = a.t10.now })) ((record { tokens = c.args.i1.now; rules = c.args.i7.now })) c.mark_staying.new.w (c.well_formed.1.0.1.1.0.1.0.1) ((sym c.validate.ensures ∙ c.in-Ok.is))
    (stays_marked c.args.src.now c.args.c c.args.g ((let a = c.args in
    record { t1 = a.t1.now; t2 = a.t2.now; t3 = a.t3.now; t4 = a.t4.now; t5 = a.t5.now; t6 = a.t6.now; t7 = a.t7.now; t8 = a.t8.now; t9 = a.t9.now; t10 = a.t10.now })) ((record { tokens = c.args.i1.now; rules = c.args.i7.now })) c.args.work.now c.mark_staying.new.w ((sym c.validate.ensures ∙ c.in-Ok.is)) c.mark_staying.result c.mark_staying.ensures (not-false c.mark_staying.result c.if-not-mark_staying.false-raw))

pub shape_of-t1-else-not-mark_staying : goal.shape_of-t1-else-not-mark_staying
shape_of-t1-else-not-mark_staying c = c.close_all-d.auto.t1

pub shape_of-t3-else-not-mark_staying : goal.shape_of-t3-else-not-mark_staying
shape_of-t3-else-not-mark_staying c = c.close_all-d.auto.t3

pub shape_of-t5-else-not-mark_staying : goal.shape_of-t5-else-not-mark_staying
shape_of-t5-else-not-mark_staying c = c.close_all-d.auto.t5

pub shape_of-t7-else-not-mark_staying : goal.shape_of-t7-else-not-mark_staying
shape_of-t7-else-not-mark_staying c = c.close_all-d.auto.t7

pub shape_of-t8-else-not-mark_staying : goal.shape_of-t8-else-not-mark_staying
shape_of-t8-else-not-mark_staying c = c.close_all-d.auto.t8

pub shape_of-t9-else-not-mark_staying : goal.shape_of-t9-else-not-mark_staying
shape_of-t9-else-not-mark_staying c = c.close_all-d.auto.t9

pub shape_of-i1-else-not-mark_staying : goal.shape_of-i1-else-not-mark_staying
shape_of-i1-else-not-mark_staying c = c.close_all-d.auto.i1

pub shape_of-i7-else-not-mark_staying : goal.shape_of-i7-else-not-mark_staying
shape_of-i7-else-not-mark_staying c = c.close_all-d.auto.i7

pub shape_of-work-else-not-mark_staying : goal.shape_of-work-else-not-mark_staying
shape_of-work-else-not-mark_staying c = c.mark_staying.auto.w

pub returns-else-not-mark_staying : goal.returns-else-not-mark_staying
returns-else-not-mark_staying c =
    let y : Changing = record { t1 = c.close_all-d.new.t1; t3 = c.close_all-d.new.t3; t5 = c.close_all-d.new.t5; t7 = c.close_all-d.new.t7; t8 = c.close_all-d.new.t8; t9 = c.close_all-d.new.t9; i1 = c.close_all-d.new.i1; i7 = c.close_all-d.new.i7 } in
    ends_pruned c.args.src.now c.args.c c.args.g ((let a = c.args in
    record { t1 = a.t1.now; t2 = a.t2.now; t3 = a.t3.now; t4 = a.t4.now; t5 = a.t5.now; t6 = a.t6.now; t7 = a.t7.now; t8 = a.t8.now; t9 = a.t9.now; t10 = a.t10.now })) ((record { tokens = c.args.i1.now; rules = c.args.i7.now })) c.args.work.now c.mark_staying.new.w ((sym c.validate.ensures ∙ c.in-Ok.is)) c.mark_staying.result c.mark_staying.ensures (not-false c.mark_staying.result c.if-not-mark_staying.false-raw) c.close_all-d.result y c.close_all-d.ensures

pub shape_of-t1-in-Err-UnsoundTables : goal.shape_of-t1-in-Err-UnsoundTables
shape_of-t1-in-Err-UnsoundTables c = refl

pub shape_of-t3-in-Err-UnsoundTables : goal.shape_of-t3-in-Err-UnsoundTables
shape_of-t3-in-Err-UnsoundTables c = refl

pub shape_of-t5-in-Err-UnsoundTables : goal.shape_of-t5-in-Err-UnsoundTables
shape_of-t5-in-Err-UnsoundTables c = refl

pub shape_of-t7-in-Err-UnsoundTables : goal.shape_of-t7-in-Err-UnsoundTables
shape_of-t7-in-Err-UnsoundTables c = refl

pub shape_of-t8-in-Err-UnsoundTables : goal.shape_of-t8-in-Err-UnsoundTables
shape_of-t8-in-Err-UnsoundTables c = refl

pub shape_of-t9-in-Err-UnsoundTables : goal.shape_of-t9-in-Err-UnsoundTables
shape_of-t9-in-Err-UnsoundTables c = refl

pub shape_of-i1-in-Err-UnsoundTables : goal.shape_of-i1-in-Err-UnsoundTables
shape_of-i1-in-Err-UnsoundTables c = refl

pub shape_of-i7-in-Err-UnsoundTables : goal.shape_of-i7-in-Err-UnsoundTables
shape_of-i7-in-Err-UnsoundTables c = refl

pub shape_of-work-in-Err-UnsoundTables : goal.shape_of-work-in-Err-UnsoundTables
shape_of-work-in-Err-UnsoundTables c = c.zero.auto.t

pub returns-in-Err-UnsoundTables : goal.returns-in-Err-UnsoundTables
returns-in-Err-UnsoundTables c =
    ends_unsound c.args.src.now c.args.c c.args.g ((let a = c.args in
    record { t1 = a.t1.now; t2 = a.t2.now; t3 = a.t3.now; t4 = a.t4.now; t5 = a.t5.now; t6 = a.t6.now; t7 = a.t7.now; t8 = a.t8.now; t9 = a.t9.now; t10 = a.t10.now })) ((record { tokens = c.args.i1.now; rules = c.args.i7.now })) c.args.work.now c.zero.new.t (sym c.validate.ensures ∙ (err_is c.in-Err-UnsoundTables.is c.in-Err-UnsoundTables.field-0-is)) c.zero.ensures

pub shape_of-t1-in-Err-Invalid : goal.shape_of-t1-in-Err-Invalid
shape_of-t1-in-Err-Invalid c = refl

pub shape_of-t3-in-Err-Invalid : goal.shape_of-t3-in-Err-Invalid
shape_of-t3-in-Err-Invalid c = refl

pub shape_of-t5-in-Err-Invalid : goal.shape_of-t5-in-Err-Invalid
shape_of-t5-in-Err-Invalid c = refl

pub shape_of-t7-in-Err-Invalid : goal.shape_of-t7-in-Err-Invalid
shape_of-t7-in-Err-Invalid c = refl

pub shape_of-t8-in-Err-Invalid : goal.shape_of-t8-in-Err-Invalid
shape_of-t8-in-Err-Invalid c = refl

pub shape_of-t9-in-Err-Invalid : goal.shape_of-t9-in-Err-Invalid
shape_of-t9-in-Err-Invalid c = refl

pub shape_of-i1-in-Err-Invalid : goal.shape_of-i1-in-Err-Invalid
shape_of-i1-in-Err-Invalid c = refl

pub shape_of-i7-in-Err-Invalid : goal.shape_of-i7-in-Err-Invalid
shape_of-i7-in-Err-Invalid c = refl

pub shape_of-work-in-Err-Invalid : goal.shape_of-work-in-Err-Invalid
shape_of-work-in-Err-Invalid c = c.zero-in-Err-Invalid.auto.t

pub returns-in-Err-Invalid : goal.returns-in-Err-Invalid
returns-in-Err-Invalid c =
    rw c.in-Err-Invalid.field-0-is (ends_invalid c.args.src.now c.args.c c.args.g ((let a = c.args in
    record { t1 = a.t1.now; t2 = a.t2.now; t3 = a.t3.now; t4 = a.t4.now; t5 = a.t5.now; t6 = a.t6.now; t7 = a.t7.now; t8 = a.t8.now; t9 = a.t9.now; t10 = a.t10.now })) ((record { tokens = c.args.i1.now; rules = c.args.i7.now })) c.args.work.now c.zero-in-Err-Invalid.new.t _ (sym c.validate.ensures ∙ (err_is c.in-Err-Invalid.is c.in-Err-Invalid.field-0-is)) c.zero-in-Err-Invalid.ensures)
