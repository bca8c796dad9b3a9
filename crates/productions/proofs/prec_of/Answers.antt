-- `productions::prec_of`.
use borrow.Author.Tests.{eq-eqb, ne_eqb}
use Rattle.productions.specs.Cells.{prec_of}
use Rattle.productions.proofs.prec_of.Goals as goal

pub returns-then-f-eq1 : goal.returns-then-f-eq1
unfolding prec_of
returns-then-f-eq1 c = rw (eq-eqb _ _ c.if-f-eq1.true, prec_of)

pub returns-else-f-eq1 : goal.returns-else-f-eq1
unfolding prec_of
returns-else-f-eq1 c = rw (ne_eqb _ _ c.if-f-eq1.false, prec_of)
