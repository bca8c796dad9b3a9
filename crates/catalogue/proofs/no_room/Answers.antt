-- `catalogue::no_room`: a table, then the source.
use Rattle.catalogue.proofs.Laws.{room_table, room_fits, room_source}
use Rattle.catalogue.proofs.no_room.Goals as goal

pub returns-then-k-ne0 : goal.returns-then-k-ne0
returns-then-k-ne0 c =
    let a = c.args in
    room_table a.h a.rooms.n a.source _ c.first_short-k.ensures c.if-k-ne0.true

pub returns-then-h-source : goal.returns-then-h-source
returns-then-h-source c =
    let a = c.args in
    room_fits a.h a.rooms.n a.source _ c.first_short-k.ensures c.if-k-ne0.false c.if-h-source.true

pub returns : goal.returns
returns c =
    let a = c.args in
    room_source a.h a.rooms.n a.source _ c.first_short-k.ensures c.if-k-ne0.false c.if-h-source.false
