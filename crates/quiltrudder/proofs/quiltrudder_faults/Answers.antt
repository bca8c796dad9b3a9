-- `quiltrudder::quiltrudder_faults`: all faults, and the answer in numbers.
use Rattle.quiltrudder.proofs.Answers.{face_faults}
use Rattle.quiltrudder.proofs.quiltrudder_faults.Goals as goal

pub returns : goal.returns
returns c =
    face_faults _ c.args.reading.now _ _ _ _ c.counts_of-c.ensures c.singles_of-g.ensures _ _ _ _ _ _ _ c.faults-l.ensures.fact c.of_fault_listing.ensures c.faulted.ensures c.faults-l.ensures.spot_value c.counted_cells.ensures
