-- `quiltrudder::restoring_cells`: a reading's numbers behind those of the answer.
use Rattle.quiltrudder.proofs.restoring_cells.Goals as goal

pub returns : goal.returns
returns c = rw (← c.of_restoring.ensures) c.reading_cells.ensures
