-- `quiltrudder::quiltrudder_name`: the place of the name.
use Rattle.quiltrudder.proofs.Answers.{face_name}
use Rattle.quiltrudder.proofs.quiltrudder_name.Goals as goal

pub returns : goal.returns
returns c = face_name _ c.args.reading.now _ _ _ _ c.counts_of-c.ensures c.singles_of-g.ensures _ _ _ c.name_cells.ensures
