-- `lists::type_row`.
use mathlib.Core.Path.{◌∙◌, ap, refl}
use Rattle.grammar.specs.State.{Out1}
use Rattle.grammar.proofs.Steps.{behind_one}
use Rattle.lists.proofs.Laws.{type_is, type_counts}
use Rattle.lists.proofs.type_row.Goals as goal

pub returns : goal.returns
returns c =
    let e = type_is _ _ _ _ _ _ _ _ _ c.tag_row-q.ensures.is (behind_one _ _ _ c.tag_row-q.result.answer c.tag_row-q.result.state _ c.pass_on.ensures.is _ _ refl) in
    record {
      is = e;
      moved = rw c.tag_row-q.ensures.kept at c.pass_on.ensures.moved;
      counted = ap (λ (o : Out1). o.state.counts) e ∙ type_counts _ _ _ _ _ _ _;
    }
