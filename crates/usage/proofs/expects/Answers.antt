-- `usage::expects`: the kind is compared first, then the name.
use mathlib.Core.Path.{sym, ◌∙◌}
use Rattle.usage.proofs.Excuses.{expects_says}
use Rattle.usage.proofs.expects.Goals as goal

pub returns : goal.returns
returns c =
    let a = c.args in
    expects_says a.src.now a.t6.now a.kind a.a a.b a.e _ _ _ (sym c.cell.ensures ∙ c.if-cell-kind.false) c.cell-from.ensures c.cell-to.ensures c.same_part.ensures
