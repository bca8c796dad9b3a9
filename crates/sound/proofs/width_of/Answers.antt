-- `sound::width_of`: each arm is its entry of the list.
use borrow.Author.Rules.{rules}
use Rattle.sound.proofs.Laws.{past_ten, past_thirteen, width_past}
use Rattle.sound.proofs.width_of.Goals as goal

pub returns-in_default : goal.returns-in_default
returns-in_default c = search (past_ten, past_thirteen, width_past, rules)
