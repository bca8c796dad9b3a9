-- `validator::note_unlinked`: arrays without cells claim nothing.
use native.Mathlib.Omega.{arith}
use Rattle.validator.proofs.note_unlinked.Goals as goal

pub note_linked-requires : goal.note_linked-requires
note_linked-requires c = (c.requires.0, record { first = λ k h. absurd (omega arith); later = λ r l h j. absurd (omega arith) }, c.requires.1)
