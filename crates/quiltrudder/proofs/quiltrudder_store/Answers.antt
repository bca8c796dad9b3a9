-- `quiltrudder::quiltrudder_store`: the blocks, and the answer in numbers.
use Rattle.quiltrudder.proofs.Answers.{face_store}
use Rattle.quiltrudder.proofs.quiltrudder_store.Goals as goal

pub returns : goal.returns
returns c =
    face_store _ c.args.reading.now _ _ _ _ _ _ c.counts_of-c.ensures c.posix_of-p.ensures c.singles_of-g.ensures _ _ _ _ _ _ _ c.store-r.ensures c.of_storing-t.ensures c.stored_blocks-n.ensures c.spot_of.ensures c.counted_cells.ensures
