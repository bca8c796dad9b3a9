-- `quiltrudder::epp_value`: the value, and line and column of the answer's place.
use Rattle.values.specs.Value.{valuation_numbers}
use Rattle.quiltrudder.proofs.Answers.{spot_counted}
use Rattle.quiltrudder.proofs.epp_value.Goals as goal

pub returns : goal.returns
returns c =
    record {
      fact = c.epp_value-answer.ensures;
      spot_value = spot_counted _ _ _ c.spot_of.ensures (valuation_numbers c.epp_value-answer.result) c.of_valuation.ensures;
    }
