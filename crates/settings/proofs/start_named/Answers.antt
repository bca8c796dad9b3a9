-- `settings::start_named`: the first start, or a repeat.
use mathlib.Core.Path.{refl}
use Rattle.settings.proofs.Laws.{start_first, start_again}
use Rattle.settings.proofs.start_named.Goals as goal

pub returns-in-None : goal.returns-in-None
returns-in-None c =
    record {
      is = start_first _ _ _ _ _ c.in-None.is c.with_start-next.ensures;
      kept = refl;
    }

pub returns-in-Some : goal.returns-in-Some
returns-in-Some c =
    record {
      is = start_again _ _ _ _ _ _ _ c.in-Some.is c.list_repeat.ensures.is;
      kept = c.list_repeat.ensures.kept;
    }
