-- `validator::faults`: zeros, then 44, then the walk over them.
use mathlib.Core.Path.{◌∙◌}
use Rattle.validation.proofs.Laws.{tested_walkable, listing_unsound, listing_sound}
use Rattle.validation.proofs.Noted.{listed_all, listed_crowded}
use Rattle.validator.proofs.faults.Goals as goal

pub returns-then-not-sound : goal.returns-then-not-sound
returns-then-not-sound c = listing_unsound _ _ _ _ _ _ c.sound.ensures c.args.t14.now _ c.zero.ensures c.if-not-sound.true-raw

pub note_faults-requires : goal.note_faults-requires
note_faults-requires c = tested_walkable _ _ _ _ _ _ c.sound.ensures c.if-not-sound.false-raw

pub returns-in-Ok : goal.returns-in-Ok
returns-in-Ok c =
    let t = c.args.t14.now in
    listed_all _ t _ _ _ c.zero.ensures c.note_faults.ensures _ c.in-Ok.is ∙ listing_sound _ _ _ _ _ _ c.sound.ensures t c.if-not-sound.false-raw

pub returns-in-Err : goal.returns-in-Err
returns-in-Err c =
    let t = c.args.t14.now in
    listed_crowded _ t _ _ _ c.zero.ensures c.note_faults.ensures _ c.in-Err.is _ c.zero-in-Err.ensures ∙ listing_sound _ _ _ _ _ _ c.sound.ensures t c.if-not-sound.false-raw
