-- `index::index_sound`.
use Rattle.std.proofs.Common.{arith}
use Rattle.index.proofs.Laws.{index_count, index_rows}
use Rattle.index.proofs.Skips.{filled_inside}
use Rattle.index.proofs.index_sound.Goals as goal

pub returns-then-count_filled-n : goal.returns-then-count_filled-n
returns-then-count_filled-n c = index_count _ _ _ _ _ _ _ c.count_filled.ensures c.if-count_filled-n.true

pub few_stand-requires : goal.few_stand-requires
few_stand-requires c = omega (arith, c.if-count_filled-n.false, c.count_filled.ensures, filled_inside c.args.ix.now)

pub returns-then-ix-le4096 : goal.returns-then-ix-le4096
returns-then-ix-le4096 c = index_rows _ _ _ _ _ _ _ c.count_filled.ensures c.if-count_filled-n.false _ c.few_stand.ensures

pub many_stand-requires : goal.many_stand-requires
many_stand-requires c = omega (arith, c.if-count_filled-n.false, c.count_filled.ensures, filled_inside c.args.ix.now)

pub returns : goal.returns
returns c = index_rows _ _ _ _ _ _ _ c.count_filled.ensures c.if-count_filled-n.false _ c.many_stand.ensures
