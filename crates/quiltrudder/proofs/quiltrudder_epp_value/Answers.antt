-- `quiltrudder::quiltrudder_epp_value`: the value, and its answer in numbers.
use Rattle.quiltrudder.proofs.Answers.{face_value}
use Rattle.quiltrudder.proofs.quiltrudder_epp_value.Goals as goal

pub returns : goal.returns
returns c =
    face_value _ c.args.reading.now _ _ _ _ c.counts_of-c.ensures c.singles_of-g.ensures _ _ _ _ _ _ _ _ c.epp_value-v.ensures.fact c.of_valuation.ensures c.written.ensures c.epp_value-v.ensures.spot_value c.counted_cells.ensures
