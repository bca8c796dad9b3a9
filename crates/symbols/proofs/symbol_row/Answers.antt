-- `symbols::symbol_row`.
use Rattle.symbols.proofs.Laws.{symbol_is}
use Rattle.symbols.proofs.symbol_row.Goals as goal

pub named_row-requires : goal.named_row-requires
named_row-requires c = c.requires

pub returns : goal.returns
returns c = symbol_is _ _ _ _ _ _ _ c.cell-kind.ensures c.cell-a.ensures c.cell-b.ensures c.named_row.ensures
