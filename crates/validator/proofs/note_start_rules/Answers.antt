-- `validator::note_start_rules`: the faults of its two parts.
use Rattle.validation.proofs.Laws.{start_rules_are}
use Rattle.validation.proofs.Noted.{err_is, part_on, part_over}
use Rattle.validator.proofs.note_start_rules.Goals as goal

pub start_fault-v-requires : goal.start_fault-v-requires
start_fault-v-requires c = rw c.rows_of-rules.ensures c.requires.rules

pub note_rules-requires : goal.note_rules-requires
note_rules-requires c = rw (c.rows_of-tokens.ensures, c.rows_of-rules.ensures, c.rows_of-n.ensures) c.requires.symbols

pub returns : goal.returns
returns c =
    part_on _ _ _ (start_rules_are c.args.src.now c.args.c _ _ c.rows_of-tokens.ensures c.rows_of-rules.ensures c.args.t1.now c.args.t2.now c.args.t7.now c.args.t8.now c.args.t9.now c.args.start _ _ c.rows_of-precedences.ensures c.rows_of-n.ensures _ c.start_fault-v.ensures) _ _ _ _ c.note.ensures _ c.in_ok-at.was _ _ c.note_rules.ensures

pub returns-in_err-at : goal.returns-in_err-at
returns-in_err-at c =
    rw (err_is c.from_residual.result c.in_err-at.field-0.0 c.from_residual.ensures.1)
    (part_over _ _ _ (start_rules_are c.args.src.now c.args.c _ _ c.rows_of-tokens.ensures c.rows_of-rules.ensures c.args.t1.now c.args.t2.now c.args.t7.now c.args.t8.now c.args.t9.now c.args.start _ _ c.rows_of-precedences.ensures c.rows_of-n.ensures _ c.start_fault-v.ensures) _ _ _ _ c.note.ensures _ c.in_err-at.was)
