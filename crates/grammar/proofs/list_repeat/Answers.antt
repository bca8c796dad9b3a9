-- `grammar::list_repeat`: a row of table 10.
use Rattle.grammar.specs.State.{list_repeat}
use Rattle.grammar.proofs.list_repeat.Goals as goal

pub returns : goal.returns
unfolding list_repeat
returns c =
    record {
      is = rw (← c.repeat_number.ensures) c.push.ensures.is;
      kept = c.push.ensures.kept;
    }
