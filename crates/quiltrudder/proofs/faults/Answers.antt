-- `quiltrudder::faults`: all faults, and line and column of the answer's place.
use Rattle.validation.specs.Walk.{fault_listing_numbers}
use Rattle.quiltrudder.proofs.Answers.{spot_counted}
use Rattle.quiltrudder.proofs.faults.Goals as goal

pub returns : goal.returns
returns c =
    record {
      fact = c.faults-answer.ensures;
      spot_value = spot_counted _ _ _ c.spot_of.ensures (fault_listing_numbers c.faults-answer.result) c.of_fault_listing.ensures;
    }
