-- `validation::start_fault`: each arm is its line of the definition.
use Rattle.validation.proofs.Laws.{start_none, start_at}
use Rattle.validation.proofs.start_fault.Goals as goal

pub returns-in-None : goal.returns-in-None
returns-in-None c = start_none _ _ _ _ c.in-None.is

pub returns-then-is_indexed : goal.returns-then-is_indexed
returns-then-is_indexed c = start_at _ _ _ _ _ _ _ _ c.in-Some.is c.is_indexed.ensures c.if-is_indexed.true

pub returns-else-is_indexed : goal.returns-else-is_indexed
returns-else-is_indexed c = start_at _ _ _ _ _ _ _ _ c.in-Some.is c.is_indexed.ensures c.if-is_indexed.false
