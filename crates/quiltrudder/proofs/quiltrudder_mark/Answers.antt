-- `quiltrudder::quiltrudder_mark`: the marking, and its answer in numbers.
use Rattle.quiltrudder.proofs.Answers.{face_mark}
use Rattle.quiltrudder.proofs.quiltrudder_mark.Goals as goal

pub returns : goal.returns
returns c =
    face_mark _ c.args.reading.now _ _ _ _ c.counts_of-c.ensures c.singles_of-g.ensures _ _ _ _ _ c.mark-l.ensures.marked_bits c.of_marking-t.ensures c.mark-l.ensures.spot_value
