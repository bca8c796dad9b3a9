-- `index::row_slot`.
use Rattle.std.proofs.Common.{refl}
use Rattle.index.proofs.Skips.{row_slot_is}
use Rattle.index.proofs.row_slot.Goals as goal

pub home_slot-p-requires : goal.home_slot-p-requires
home_slot-p-requires c = c.requires.0

pub open_slot-z-requires : goal.open_slot-z-requires
open_slot-z-requires c = (c.home_slot-p.ensures.inside, c.requires.1)

pub returns : goal.returns
returns c =
    record {
      is = row_slot_is _ _ _ _ _ _ _ _ _ _ c.cell-a.ensures c.cell-b.ensures c.home_slot-p.ensures.is c.open_slot-z.ensures;
      skipped = c.note_skip.ensures _ _ refl c.home_slot-p.ensures.inside c.open_slot-z.ensures c.requires.1;
    }
