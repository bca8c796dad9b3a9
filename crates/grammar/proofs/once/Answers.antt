-- `grammar::once`: a row that is found makes a repeat, else there is a row more, and its finder follows.
use mathlib.Core.Path.{◌∙◌}
use native.Mathlib.Omega.{arith}
use Rattle.finder.proofs.Laws.{grown_none}
use Rattle.grammar.proofs.Counting.{count_low}
use Rattle.grammar.proofs.Steps.{once_repeat, once_new, name_new}
use Rattle.grammar.proofs.Spares.{tracked_repeated}
use Rattle.grammar.proofs.once.Goals as goal

pub find-requires : goal.find-requires
find-requires c =
    let l = c.requires.0.table in
    rw (c.count_of-n.ensures ∙ count_low c.args.s c.args.k (omega arith)) c.requires.1.held

pub overflow_add-p : goal.overflow_add-p
overflow_add-p c =
    let h = c.row_place-p.ensures.upper_bound in
    omega arith

pub overflow_add-p-in-Some : goal.overflow_add-p-in-Some
overflow_add-p-in-Some c =
    let h = c.row_place-p.ensures.upper_bound in
    omega arith

pub push_entered-requires : goal.push_entered-requires
push_entered-requires c = (
  c.requires.0,
  c.requires.1,
  name_new _ c.args.s c.args.k _ _ _ _ _ c.args.row.now _ _ c.count_of-n.ensures c.cell_in_row-from.ensures c.cell_in_row-to.ensures c.find.ensures c.in-None.is,
)

pub returns-in-Some : goal.returns-in-Some
returns-in-Some c =
    record {
      is = once_repeat _ _ _ _ _ _ _ _ _ _ _ _ _ c.count_of-n.ensures c.cell_in_row-from.ensures c.cell_in_row-to.ensures c.find.ensures _ _ _ _ _ _ _ c.in-Some.is c.row_place-p.ensures.value c.cell-a.ensures c.cell-b.ensures c.cell_in_row-c.ensures c.cell_in_row-d.ensures c.list_repeat.ensures.is;
      kept = c.list_repeat.ensures.kept;
      indexed = (tracked_repeated _ _ _ _ c.args.s _ _ _ _ _ _ _ _ _ _ _ c.requires.0.table c.list_repeat.ensures.is c.requires.1, grown_none _);
    }

pub returns-in-None : goal.returns-in-None
returns-in-None c =
    record {
      is = once_new _ _ _ _ _ _ _ _ _ _ _ _ _ c.count_of-n.ensures c.cell_in_row-from.ensures c.cell_in_row-to.ensures c.find.ensures _ c.in-None.is c.push_entered.ensures.is;
      kept = c.push_entered.ensures.kept;
      indexed = c.push_entered.ensures.indexed;
    }
