-- `rules::enter_rule`.
use mathlib.Core.Path.{refl, sym, ◌∙◌}
use native.Mathlib.Omega.{arith}
use Rattle.rules.proofs.Laws.{rule_again, rule_new}
use Rattle.rules.proofs.enter_rule.Goals as goal

pub find-requires : goal.find-requires
find-requires c = rw c.count_of-n.ensures c.requires.held

pub push_entered-r-requires : goal.push_entered-r-requires
push_entered-r-requires c = (
  record { table = omega arith; wide = refl; named = omega arith },
  c.requires,
  rw (← c.count_of-n.ensures) (sym c.find.ensures ∙ c.in-None.is),
)

pub returns-in-Some : goal.returns-in-Some
returns-in-Some c =
    record {
      is = rule_again _ _ _ _ _ _ _ _ c.count_of-n.ensures c.find.ensures _ c.in-Some.is;
      kept = refl;
      indexed = c.requires;
    }

pub returns-in-None : goal.returns-in-None
returns-in-None c =
    record {
      is = rule_new _ _ _ _ _ _ _ _ c.count_of-n.ensures c.find.ensures _ _ c.in-None.is c.part_cells-x.ensures c.push_entered-r.ensures.is;
      kept = c.push_entered-r.ensures.kept;
      indexed = c.push_entered-r.ensures.indexed.0;
    }
