-- `reach::mark_symbols`: symbol by symbol.
use native.Mathlib.Omega.{arith}
use Rattle.reach.proofs.Laws.{fits_on, symbols_none, symbols_more, symbols_all}
use Rattle.reach.proofs.mark_symbols.Goals as goal

pub loop-s-init : goal.loop-s-init
loop-s-init c = (λ h. omega arith, symbols_none _ _ _ _ _ (omega arith))

pub mark_symbol-one-requires : goal.mark_symbol-one-requires
mark_symbol-one-requires c = fits_on _ c.args.w.now _ c.loop-s.invariant.1.adds.size c.requires

pub loop-s-preserved : goal.loop-s-preserved
loop-s-preserved c =
    let a = c.args in (
      λ h. omega arith,
      rw c.either-changed.ensures
          (symbols_more a.syms.now a.z a.from c.loop-s.s c.loop-s.changed c.mark_symbol-one.result a.w.now c.loop-s.w _ c.loop-s.auto.s c.loop-s.invariant.1 c.mark_symbol-one.ensures),
    )

pub returns : goal.returns
returns c = symbols_all _ _ _ _ c.loop-s.s _ _ _ c.loop-s-test.false c.loop-s.invariant.0 c.loop-s.invariant.1
