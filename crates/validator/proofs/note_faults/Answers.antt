-- `validator::note_faults`: the faults of its two halves.
use Rattle.validation.proofs.Laws.{faults_are}
use Rattle.validation.proofs.Noted.{err_is, part_on, part_over}
use Rattle.validator.proofs.note_faults.Goals as goal

pub returns : goal.returns
returns c =
    part_on _ _ _ (faults_are c.args.src.now c.args.c c.args.g c.args.t1.now c.args.t2.now c.args.t4.now c.args.t5.now c.args.t6.now c.args.t7.now c.args.t8.now c.args.t9.now) _ _ _ _ c.note_start_rules.ensures _ c.in_ok-at.was _ _ c.note_epps_unused.ensures

pub returns-in_err-at : goal.returns-in_err-at
returns-in_err-at c =
    rw (err_is c.from_residual.result c.in_err-at.field-0.0 c.from_residual.ensures.1)
    (part_over _ _ _ (faults_are c.args.src.now c.args.c c.args.g c.args.t1.now c.args.t2.now c.args.t4.now c.args.t5.now c.args.t6.now c.args.t7.now c.args.t8.now c.args.t9.now) _ _ _ _ c.note_start_rules.ensures _ c.in_err-at.was)
