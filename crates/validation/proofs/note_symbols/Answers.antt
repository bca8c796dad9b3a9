-- `validation::note_symbols`: the faults of the symbols so far are noted.
use native.Mathlib.Omega.{arith}
use Rattle.validation.specs.Walk.{symbol_faults, symbols_faults}
use Rattle.validation.proofs.Noted.{err_is, walk_all, from_start, from_on, from_over}
use Rattle.validation.proofs.note_symbols.Goals as goal

pub loop-s-init : goal.loop-s-init
loop-s-init c = (omega arith, from_start (symbol_faults _) _ _ _)

pub loop-s-preserved : goal.loop-s-preserved
loop-s-preserved c =
    (omega arith, from_on (symbol_faults _) _ _ _ c.loop-s.s _ _ c.loop-s.auto.s c.loop-s.invariant.1 _ c.symbol_fault-v.ensures _ _ c.note.ensures _ c.in_ok-next.was)

pub returns-in_err-next : goal.returns-in_err-next
unfolding symbols_faults
returns-in_err-next c =
    rw (err_is c.from_residual.result c.in_err-next.field-0.0 c.from_residual.ensures.1)
    (from_over (symbol_faults _) _ _ _ c.loop-s.s _ _ c.loop-s.auto.s c.loop-s.invariant.1 _ c.symbol_fault-v.ensures _ _ c.note.ensures _ _ c.loop-s-test.true c.in_err-next.was)

pub returns : goal.returns
unfolding symbols_faults
returns c = walk_all _ _ _ _ _ _ c.loop-s.invariant.1 _ c.loop-s.invariant.0 (omega arith)
