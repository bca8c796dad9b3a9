-- `quiltrudder::quiltrudder_next_unused`: a step of the walk, with its record and its answer in numbers.
use Rattle.quiltrudder.proofs.Answers.{face_next}
use Rattle.quiltrudder.proofs.quiltrudder_next_unused.Goals as goal

pub returns : goal.returns
returns c =
    let a = c.args in
    face_next _ a.reading.now _ _ _ _ c.counts_of-c.ensures c.singles_of-g.ensures _ a.at.now _ c.step-s.result.next.answer c.step-s.result.at _ c.step-s.ensures.advanced c.step-s.ensures.spot_value c.next_cells.ensures
