-- `productions::action_of`.
use borrow.Author.Tests.{eq-eqb, ne_eqb}
use Rattle.productions.specs.Cells.{action_of}
use Rattle.productions.proofs.action_of.Goals as goal

pub returns-then-f-eq1 : goal.returns-then-f-eq1
unfolding action_of
returns-then-f-eq1 c = rw (eq-eqb _ _ c.if-f-eq1.true, action_of)

pub returns-else-f-eq1 : goal.returns-else-f-eq1
unfolding action_of
returns-else-f-eq1 c = rw (ne_eqb _ _ c.if-f-eq1.false, action_of)
