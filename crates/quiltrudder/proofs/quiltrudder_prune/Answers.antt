-- `quiltrudder::quiltrudder_prune`: the pruning, with the reading's counts and its answer in numbers.
use Rattle.quiltrudder.proofs.Answers.{face_prune}
use Rattle.quiltrudder.proofs.quiltrudder_prune.Goals as goal

pub returns : goal.returns
returns c =
    face_prune _ c.args.reading.now _ _ _ _ c.counts_of-c.ensures c.singles_of-g.ensures _ _ _ _ _ _ _ _ _ c.prune-l.ensures.prunings c.reading_after.ensures c.of_pruning-t.ensures c.prune-l.ensures.spot_value
