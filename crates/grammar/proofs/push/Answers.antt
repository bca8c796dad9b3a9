-- `grammar::push`.
use mathlib.Core.Path.{ap}
use native.Mathlib.Omega.{arith}
use borrow.Author.Rules.{rules}
use Rattle.tables.proofs.Laws.{added_counts}
use Rattle.grammar.specs.declared.State.{State}
use Rattle.grammar.proofs.Steps.{push_ok, push_full}
use Rattle.grammar.proofs.push.Goals as goal

pub overflow_add-n : goal.overflow_add-n
overflow_add-n c =
    let h = added_counts _ _ _ _ _ c.add_row.ensures c.if-add_row.true in
    omega arith

pub returns-then-add_row : goal.returns-then-add_row
returns-then-add_row c =
    record {
      is = push_ok _ _ _ _ _ _ _ c.count_of-n.ensures c.add_row.ensures _ c.if-add_row.true c.with_count.ensures;
      kept = ap (λ (x : State). x.at) c.with_count.ensures;
    }

pub returns-else-add_row : goal.returns-else-add_row
returns-else-add_row c =
    record {
      is = push_full _ _ _ _ _ _ _ c.count_of-n.ensures c.add_row.ensures _ c.if-add_row.false c.no_room.ensures;
      kept = search rules;
    }
