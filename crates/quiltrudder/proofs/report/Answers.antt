-- `quiltrudder::report`: the report, and line and column of its answer's place.
use Rattle.usage.specs.Report.{listing_numbers}
use Rattle.quiltrudder.proofs.Answers.{spot_counted}
use Rattle.quiltrudder.proofs.report.Goals as goal

pub returns : goal.returns
returns c =
    record {
      reported = c.report-answer.ensures;
      spot_value = spot_counted _ _ _ c.spot_of.ensures (listing_numbers c.report-answer.result) c.of_listing.ensures;
    }
