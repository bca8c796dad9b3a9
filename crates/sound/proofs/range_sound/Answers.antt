-- `sound::range_sound`: it begins where the row before ends, or with the first symbol.
use mathlib.Core.Path.{◌∙◌}
use Rattle.sound.proofs.Laws.{before_first, before_later, range_is}
use Rattle.sound.proofs.range_sound.Goals as goal
use Rattle.sound.proofs.range_sound.Goals.{then-r-ne0, else-r-ne0}

pub returns : goal.returns
returns c =
    range_is _ _ c.if-r-ne0.before _ _ c.cell-first.ensures c.cell.ensures
    (elim c.if-r-ne0.branch [
      | then-r-ne0 w ↦ before_later _ _ _ w.if-r-ne0.true (w.before-is ∙ w.cell-before.ensures)
      | else-r-ne0 w ↦ before_first _ _ _ w.if-r-ne0.false w.before-is
    ])
