-- `sound::names_apart`: the finder holds the rows so far, which pass the test.
use mathlib.Core.Path.{sym, ◌∙◌}
use native.Mathlib.Omega.{arith}
use Rattle.tables.proofs.Below.{below_none, below_all}
use Rattle.finder.proofs.Laws.{held_none}
use Rattle.sound.proofs.Apart.{found_none, name_again, name_new, held_row}
use Rattle.sound.proofs.names_apart.Goals as goal

pub loop-r-init : goal.loop-r-init
loop-r-init c = (held_none _ _ _ _ _, below_none _)

pub find-requires : goal.find-requires
find-requires c = c.loop-r.invariant.0

pub returns-then-is_some : goal.returns-then-is_some
returns-then-is_some c = name_again _ _ _ _ _ _ c.cell-a.ensures c.cell-b.ensures _ c.find.ensures _ c.is_some.ensures c.if-is_some.true _ (omega arith)

pub loop-r-preserved : goal.loop-r-preserved
loop-r-preserved c =
    let none = found_none _ (sym c.is_some.ensures ∙ c.if-is_some.false) in (
      held_row _ _ _ _ _ _ c.cell-a.ensures c.cell-b.ensures _ c.find.ensures none _ c.loop-r.invariant.0 _ c.enter.ensures.grown c.enter.ensures.led,
      name_new _ _ _ _ _ _ c.cell-a.ensures c.cell-b.ensures _ c.find.ensures none c.loop-r.invariant.1,
    )

pub returns : goal.returns
returns c = below_all _ c.loop-r.r _ c.loop-r.invariant.1 (omega arith) (omega arith)
