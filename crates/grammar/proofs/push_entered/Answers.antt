-- `grammar::push_entered`: the row is added, and its finder follows.
use mathlib.Core.Path.{ap}
use native.Mathlib.Omega.{arith}
use borrow.Author.Rules.{rules}
use Rattle.tables.proofs.Laws.{added_counts}
use Rattle.finder.proofs.Laws.{grown_none}
use Rattle.grammar.specs.declared.State.{State}
use Rattle.grammar.proofs.Steps.{push_ok, push_full, push_tracked, push_untracked}
use Rattle.grammar.proofs.push_entered.Goals as goal

pub overflow_add-n : goal.overflow_add-n
overflow_add-n c = omega (arith, added_counts _ _ _ _ _ c.add_row.ensures c.if-add_row.true)

pub returns-then-add_row : goal.returns-then-add_row
returns-then-add_row c =
    record {
      is = push_ok _ _ _ _ _ _ _ c.count_of-n.ensures c.add_row.ensures _ c.if-add_row.true c.with_count.ensures;
      kept = ap (λ (y : State). y.at) c.with_count.ensures;
      indexed = (push_tracked _ c.args.s _ _ _ _ _ _ _ _ _ c.count_of-n.ensures c.add_row.ensures c.requires.0 c.requires.1 _ c.if-add_row.true c.with_count.ensures c.requires.2 _ c.enter.ensures.grown c.enter.ensures.led, c.enter.ensures.grown);
    }

pub returns-else-add_row : goal.returns-else-add_row
returns-else-add_row c =
    record {
      is = push_full _ _ _ _ _ _ _ c.count_of-n.ensures c.add_row.ensures _ c.if-add_row.false c.no_room.ensures;
      kept = search rules;
      indexed = (push_untracked _ c.args.s _ _ _ _ _ _ _ _ _ c.count_of-n.ensures c.add_row.ensures c.requires.0 c.requires.1 c.if-add_row.false, grown_none _);
    }
