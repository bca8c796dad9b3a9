-- `symbols::symbol_knows`.
use Rattle.symbols.specs.Symbols.{lexicon}
use Rattle.symbols.proofs.Laws.{knows_rule, knows_token}
use Rattle.symbols.proofs.symbol_knows.Goals as goal

pub row_known-requires : goal.row_known-requires
row_known-requires c = c.requires.1

pub returns-then-kind-eq1 : goal.returns-then-kind-eq1
returns-then-kind-eq1 c =
    let x = c.args in
    knows_rule (lexicon x.src.now x.t1.now x.n x.t7.now x.m) x.t9.now x.s _ _ _ _ c.cell-kind.ensures c.cell-a.ensures c.cell-b.ensures c.cell-v.ensures _ c.if-kind-eq1.true c.row_known.ensures

pub row_known-requires-2 : goal.row_known-requires-2
row_known-requires-2 c = c.requires.0

pub returns : goal.returns
returns c =
    let x = c.args in
    knows_token (lexicon x.src.now x.t1.now x.n x.t7.now x.m) x.t9.now x.s _ _ _ _ c.cell-kind.ensures c.cell-a.ensures c.cell-b.ensures c.cell-v.ensures _ c.if-kind-eq1.false c.row_known-2.ensures
