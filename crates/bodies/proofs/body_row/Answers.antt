-- `bodies::body_row`.
use mathlib.Core.Path.{◌∙◌, ap}
use Rattle.grammar.specs.State.{Out1}
use Rattle.grammar.proofs.Steps.{behind_one}
use Rattle.bodies.proofs.Laws.{row_is, row_counts}
use Rattle.bodies.proofs.body_row.Goals as goal

pub returns : goal.returns
returns c =
    let e = row_is _ _ _ _ _ _ _ _ (behind_one _ _ _ _ _ _ c.pass_on.ensures.is _ _ c.push-r.ensures.is) in
    record {
      is = e;
      moved = rw c.push-r.ensures.kept at c.pass_on.ensures.moved;
      counted = ap (λ (o : Out1). o.state.counts) e ∙ row_counts _ _ _ _ _ _ _;
    }
