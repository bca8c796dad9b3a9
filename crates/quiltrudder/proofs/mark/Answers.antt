-- `quiltrudder::mark`: the marking, and line and column of its answer's place.
use Rattle.quiltrudder.proofs.Answers.{spot_told}
use Rattle.quiltrudder.proofs.mark.Goals as goal

pub returns : goal.returns
returns c =
    record {
      marked_bits = c.mark-answer.ensures;
      spot_value = spot_told _ _ _ c.spot_of.ensures _ c.of_marking.ensures;
    }
