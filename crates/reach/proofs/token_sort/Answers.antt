-- `reach::token_sort`.
use mathlib.Core.Path.{refl}
use Rattle.reach.proofs.token_sort.Goals as goal

pub returns : goal.returns
returns c = rw (c.words_for.ensures, c.rows_of.ensures, c.rows_of-rules.ensures) refl
