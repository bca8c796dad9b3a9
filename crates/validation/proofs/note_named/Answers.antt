-- `validation::note_named`: the faults of its two parts.
use mathlib.Core.Path.{◌∙◌}
use Rattle.validation.proofs.Laws.{epps_unused_are}
use Rattle.validation.proofs.Noted.{walked_length, part_on, part_over}
use Rattle.validation.proofs.note_named.Goals as goal

pub note_epps-requires : goal.note_epps-requires
note_epps-requires c = rw (c.rows_of-tokens.ensures, c.rows_of-implicit.ensures) c.requires.0

pub note_unused-requires : goal.note_unused-requires
note_unused-requires c = rw (c.rows_of-tokens.ensures, c.rows_of-rules.ensures) c.requires.1

pub shape_of-t14-in-Ok : goal.shape_of-t14-in-Ok
shape_of-t14-in-Ok c = walked_length _ _ _ _ _ c.note_unused.ensures ∙ walked_length _ _ _ _ _ c.note_epps.ensures

pub returns-in-Ok : goal.returns-in-Ok
returns-in-Ok c =
    part_on _ _ _ (epps_unused_are c.args.src.now c.args.c _ _ c.rows_of-tokens.ensures c.rows_of-rules.ensures c.args.t1.now c.args.t4.now c.args.t5.now c.args.t6.now c.args.t7.now _ _ _ c.rows_of-implicit.ensures c.rows_of-epps.ensures c.rows_of-unused.ensures) _ _ _ _ c.note_epps.ensures _ c.in-Ok.is _ _ c.note_unused.ensures

pub shape_of-t14-in-Err : goal.shape_of-t14-in-Err
shape_of-t14-in-Err c = walked_length _ _ _ _ _ c.note_epps.ensures

pub returns-in-Err : goal.returns-in-Err
returns-in-Err c =
    part_over _ _ _ (epps_unused_are c.args.src.now c.args.c _ _ c.rows_of-tokens.ensures c.rows_of-rules.ensures c.args.t1.now c.args.t4.now c.args.t5.now c.args.t6.now c.args.t7.now _ _ _ c.rows_of-implicit.ensures c.rows_of-epps.ensures c.rows_of-unused.ensures) _ _ _ _ c.note_epps.ensures _ c.in-Err.is
