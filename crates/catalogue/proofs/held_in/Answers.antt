-- `catalogue::held_in`: one law for each answer.
use Rattle.blocks.specs.Blocks.{content_of}
use Rattle.catalogue.proofs.Laws.{read_head, held_bad, held_unfilled, held_unsized, held_short, held_right}
use Rattle.catalogue.proofs.held_in.Goals as goal

pub returns-then-not-head_good : goal.returns-then-not-head_good
returns-then-not-head_good c =
    let a = c.args in
    let b = content_of a.s.now in held_bad b a.rooms.n a.sized a.source _ _ (read_head b _ c.get_numbers.ensures) c.head_good.ensures c.if-not-head_good.true-raw

pub returns-then-not-is_filled : goal.returns-then-not-is_filled
returns-then-not-is_filled c =
    let a = c.args in
    let b = content_of a.s.now in held_unfilled b a.rooms.n a.sized a.source _ _ (read_head b _ c.get_numbers.ensures) c.head_good.ensures _ _ _ c.head_of-h.ensures c.content_size.ensures.value c.is_filled.ensures c.if-not-head_good.false-raw c.if-not-is_filled.true-raw

pub returns-then-not-sized : goal.returns-then-not-sized
returns-then-not-sized c =
    let a = c.args in
    let b = content_of a.s.now in held_unsized b a.rooms.n a.sized a.source _ _ (read_head b _ c.get_numbers.ensures) c.head_good.ensures _ _ _ c.head_of-h.ensures c.content_size.ensures.value c.is_filled.ensures c.if-not-head_good.false-raw c.if-not-is_filled.false-raw c.if-not-sized.true-raw

pub returns-then-k-ne0 : goal.returns-then-k-ne0
returns-then-k-ne0 c =
    let a = c.args in
    let b = content_of a.s.now in held_short b a.rooms.n a.sized a.source _ _ (read_head b _ c.get_numbers.ensures) c.head_good.ensures _ _ _ c.head_of-h.ensures c.content_size.ensures.value c.is_filled.ensures c.if-not-head_good.false-raw c.if-not-is_filled.false-raw c.if-not-sized.false-raw _ c.no_room-k.ensures c.if-k-ne0.true

pub returns : goal.returns
returns c =
    let a = c.args in
    let b = content_of a.s.now in held_right b a.rooms.n a.sized a.source _ _ (read_head b _ c.get_numbers.ensures) c.head_good.ensures _ _ _ c.head_of-h.ensures c.content_size.ensures.value c.is_filled.ensures c.if-not-head_good.false-raw c.if-not-is_filled.false-raw c.if-not-sized.false-raw _ c.no_room-k.ensures c.if-k-ne0.false
