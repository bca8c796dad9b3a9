-- `lists::unused_row`: a row more, and the spacing behind it.
use Rattle.lists.specs.Lists.{unused_row}
use Rattle.grammar.proofs.Steps.{behind_one}
use Rattle.lists.proofs.unused_row.Goals as goal

pub pass_on-requires : goal.pass_on-requires
pass_on-requires c = c.requires

pub returns : goal.returns
unfolding unused_row
returns c =
    record {
      is = behind_one _ _ _ _ _ _ c.pass_on.ensures.is _ _ c.push-r.ensures.is;
      moved = rw c.push-r.ensures.kept at c.pass_on.ensures.moved;
    }
