-- `quiltrudder::prune`: the pruning, and line and column of its answer's place.
use Rattle.quiltrudder.proofs.Answers.{spot_told}
use Rattle.quiltrudder.proofs.prune.Goals as goal

pub returns : goal.returns
returns c =
    record {
      prunings = c.prune-p.ensures;
      spot_value = spot_told _ _ _ c.spot_of.ensures _ c.of_pruning.ensures;
    }
