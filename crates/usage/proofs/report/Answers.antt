-- `usage::report`: the marking, and then the list.
use Prim.Native.Nat.{ℕ}
use mathlib.Core.Path.{◌≡◌}
use native.Mathlib.Omega.{arith}
use Rattle.scan.proofs.Tuples.{err_is}
use Rattle.usage.proofs.Outcome.{report_listed, report_refused}
use Rattle.usage.proofs.report.Goals as goal

pub returns-in-Ok : goal.returns-in-Ok
returns-in-Ok c =
    report_listed c.args.src.now c.args.c c.args.g ((let a = c.args in
    record { t1 = a.t1.now; t2 = a.t2.now; t3 = a.t3.now; t4 = a.t4.now; t5 = a.t5.now; t6 = a.t6.now; t7 = a.t7.now; t8 = a.t8.now; t9 = a.t9.now; t10 = a.t10.now })) ((record { tokens = c.args.i1.now; rules = c.args.i7.now })) _ c.list_marked.result c.args.work.now _ _ c.args.out.now _ c.in-Ok.is c.mark.ensures c.list_marked.ensures.0 c.list_marked.ensures.1

pub returns-in-Err-MarksUnsound : goal.returns-in-Err-MarksUnsound
returns-in-Err-MarksUnsound c =
    let e = (err_is c.in-Err-MarksUnsound.is c.in-Err-MarksUnsound.field-0-is) in
    rw e at (report_refused c.args.src.now c.args.c c.args.g ((let a = c.args in
    record { t1 = a.t1.now; t2 = a.t2.now; t3 = a.t3.now; t4 = a.t4.now; t5 = a.t5.now; t6 = a.t6.now; t7 = a.t7.now; t8 = a.t8.now; t9 = a.t9.now; t10 = a.t10.now })) ((record { tokens = c.args.i1.now; rules = c.args.i7.now })) _ c.args.work.now _ c.args.out.now _ (λ h. let z : ◌≡◌ {A = ℕ} 0 1 = cc in omega arith) c.mark.ensures c.zero.ensures)

pub returns-in-Err-MarksInvalid : goal.returns-in-Err-MarksInvalid
returns-in-Err-MarksInvalid c =
    let e = (err_is c.in-Err-MarksInvalid.is c.in-Err-MarksInvalid.field-0-is) in
    rw c.in-Err-MarksInvalid.field-0-is (rw e at (report_refused c.args.src.now c.args.c c.args.g ((let a = c.args in
    record { t1 = a.t1.now; t2 = a.t2.now; t3 = a.t3.now; t4 = a.t4.now; t5 = a.t5.now; t6 = a.t6.now; t7 = a.t7.now; t8 = a.t8.now; t9 = a.t9.now; t10 = a.t10.now })) ((record { tokens = c.args.i1.now; rules = c.args.i7.now })) _ c.args.work.now _ c.args.out.now _ (λ h. let z : ◌≡◌ {A = ℕ} 0 1 = cc in omega arith) c.mark.ensures c.zero-in-Err-MarksInvalid.ensures))

pub returns-in-Err-MarksNoWords : goal.returns-in-Err-MarksNoWords
returns-in-Err-MarksNoWords c =
    let e = (err_is c.in-Err-MarksNoWords.is c.in-Err-MarksNoWords.field-0-is) in
    rw e at (report_refused c.args.src.now c.args.c c.args.g ((let a = c.args in
    record { t1 = a.t1.now; t2 = a.t2.now; t3 = a.t3.now; t4 = a.t4.now; t5 = a.t5.now; t6 = a.t6.now; t7 = a.t7.now; t8 = a.t8.now; t9 = a.t9.now; t10 = a.t10.now })) ((record { tokens = c.args.i1.now; rules = c.args.i7.now })) _ c.args.work.now _ c.args.out.now _ (λ h. let z : ◌≡◌ {A = ℕ} 0 1 = cc in omega arith) c.mark.ensures c.zero-in-Err-MarksNoWords.ensures)
