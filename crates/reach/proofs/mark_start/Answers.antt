-- `reach::mark_start`: there is no start, or its name is marked among the rules.
use mathlib.Core.Path.{refl}
use Rattle.reach.specs.Reach.{named, rule_sort}
use Rattle.reach.proofs.Laws.{start_none, start_at}
use Rattle.reach.proofs.mark_start.Goals as goal

pub mark_name-requires : goal.mark_name-requires
mark_name-requires c = rw c.rule_sort-z.ensures c.requires

pub returns-in-None : goal.returns-in-None
returns-in-None c =
    let a = c.args in
    start_none a.src.now (named a.rules.now (rule_sort a.c)) a.start a.w.now c.in-None.is

pub returns-in-Some : goal.returns-in-Some
returns-in-Some c =
    let a = c.args in
    start_at a.src.now (named a.rules.now (rule_sort a.c)) a.start _ _ a.w.now _ _ refl c.in-Some.is (rw c.rule_sort-z.ensures at c.mark_name.ensures)
