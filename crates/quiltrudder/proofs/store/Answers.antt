-- `quiltrudder::store`: the storing, and line and column of its answer's place.
use Rattle.storing.specs.Storing.{storing_numbers}
use Rattle.quiltrudder.proofs.Answers.{spot_counted}
use Rattle.quiltrudder.proofs.store.Goals as goal

pub returns : goal.returns
returns c =
    record {
      fact = c.store-answer.ensures;
      spot_value = spot_counted _ _ _ c.spot_of.ensures (storing_numbers c.store-answer.result) c.of_storing.ensures;
    }
