-- `quiltrudder::quiltrudder_report`: the report, and its answer in numbers.
use Rattle.quiltrudder.proofs.Answers.{face_report}
use Rattle.quiltrudder.proofs.quiltrudder_report.Goals as goal

pub returns : goal.returns
returns c =
    face_report _ c.args.reading.now _ _ _ _ c.counts_of-c.ensures c.singles_of-g.ensures _ _ _ _ _ _ _ _ _ c.report-l.ensures.reported c.of_listing.ensures c.listed.ensures c.report-l.ensures.spot_value c.counted_cells.ensures
