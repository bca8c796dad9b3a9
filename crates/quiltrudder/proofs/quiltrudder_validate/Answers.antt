-- `quiltrudder::quiltrudder_validate`: the validation, and its answer in numbers.
use Rattle.quiltrudder.proofs.Answers.{face_validity}
use Rattle.quiltrudder.proofs.quiltrudder_validate.Goals as goal

pub returns : goal.returns
returns c =
    face_validity _ c.args.reading.now _ _ _ _ c.counts_of-c.ensures c.singles_of-g.ensures _ _ _ c.validate-v.ensures.answer_value c.of_validity-t.ensures c.validate-v.ensures.spot_value
