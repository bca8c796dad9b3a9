-- `reach::copy_words`: word by word.
use native.Mathlib.Omega.{arith}
use Rattle.reach.proofs.Laws.{within_by}
use Rattle.reach.proofs.copy_words.Goals as goal

pub returns : goal.returns
returns c = within_by c.loop-i.d c.args.w.now (λ j h. c.loop-i.invariant j (omega arith))
