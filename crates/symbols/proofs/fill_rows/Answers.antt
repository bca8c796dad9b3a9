-- `symbols::fill_rows`: the symbols so far are filled in.
use native.Mathlib.Omega.{arith}
use Rattle.symbols.specs.Symbols.{lexicon}
use Rattle.symbols.proofs.Laws.{fill_start, fill_on, fill_end}
use Rattle.symbols.proofs.fill_rows.Goals as goal

pub loop-s-init : goal.loop-s-init
loop-s-init c =
    let x = c.args in
    fill_start (lexicon x.src.now x.t1.now x.n x.t7.now x.m) _

pub symbol_row-r-requires : goal.symbol_row-r-requires
symbol_row-r-requires c = c.requires

pub loop-s-preserved : goal.loop-s-preserved
loop-s-preserved c =
    let x = c.args in
    fill_on (lexicon x.src.now x.t1.now x.n x.t7.now x.m) _ c.loop-s.s _ c.loop-s.t9 _ c.loop-s.invariant c.symbol_row-r.ensures c.set_cell.ensures

pub returns : goal.returns
returns c =
    let x = c.args in
    fill_end (lexicon x.src.now x.t1.now x.n x.t7.now x.m) _ c.loop-s.s x.count _ c.loop-s.invariant (omega arith) (omega arith)
