-- `quiltrudder::validate`: the validation, and line and column of its answer's place.
use Rattle.quiltrudder.proofs.Answers.{spot_validity}
use Rattle.quiltrudder.proofs.validate.Goals as goal

pub returns : goal.returns
returns c =
    record {
      answer_value = c.validate-answer.ensures;
      spot_value = spot_validity _ _ _ c.spot_of.ensures c.validate-answer.result c.of_validity.ensures;
    }
