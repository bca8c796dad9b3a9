-- `items::bar_item`.
use mathlib.Core.Path.{◌∙◌}
use Rattle.grammar.proofs.Steps.{still, onward_passed, passed_fits}
use Rattle.items.proofs.Symbols.{carried1, carried_passed, barred}
use Rattle.items.proofs.bar_item.Goals as goal

pub overflow_cast-n : goal.overflow_cast-n
overflow_cast-n c =
    passed_fits _ _ _ c.requires (onward_passed _ _ _ _ _ _ c.pass_on-q.ensures.moved c.end_production-e.ensures.kept (still _ _ c.requires))

pub returns : goal.returns
returns c =
    record {
      is = carried1 _ _ _ c.carry.ensures _ ∙ barred _ _ _ _ c.end_production-e.ensures.is _ _ _ _ c.pass_on-q.ensures.is c.count_of.ensures c.begin-next.ensures;
      moved = carried_passed _ _ _ c.carry.ensures _ _ (onward_passed _ _ _ _ _ _ c.pass_on-q.ensures.moved c.end_production-e.ensures.kept (still _ _ c.requires));
    }
