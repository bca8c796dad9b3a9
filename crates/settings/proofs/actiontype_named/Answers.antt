-- `settings::actiontype_named`: the first action type, or a repeat.
use mathlib.Core.Path.{refl}
use Rattle.settings.proofs.Laws.{actiontype_first, actiontype_again}
use Rattle.settings.proofs.actiontype_named.Goals as goal

pub returns-in-None : goal.returns-in-None
returns-in-None c =
    record {
      is = actiontype_first _ _ _ _ c.in-None.is;
      kept = refl;
    }

pub returns-in-Some : goal.returns-in-Some
returns-in-Some c =
    record {
      is = actiontype_again _ _ _ _ _ _ _ c.in-Some.is c.list_repeat.ensures.is;
      kept = c.list_repeat.ensures.kept;
    }
