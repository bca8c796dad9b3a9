-- `finder::enter_token`: that of the tables' own, and the finder follows.
use mathlib.Core.Path.{◌≡◌, sym, ◌∙◌}
use native.Mathlib.Omega.{arith}
use Rattle.tables.specs.Table.{flag}
use Rattle.tables.proofs.Laws.{added_counts, enter_marked, enter_there, enter_new, enter_full}
use Rattle.finder.proofs.Laws.{token_marked, token_new, token_full, grown_none}
use Rattle.finder.proofs.enter_token.Goals as goal
use Rattle.finder.proofs.enter_token.Goals.{then-declared-2, else-declared-2}

pub overflow_add-result : goal.overflow_add-result
overflow_add-result c = omega (arith, added_counts _ _ _ _ _ c.add_row.ensures c.if-add_row.true)

pub returns-then-declared : goal.returns-then-declared
returns-then-declared c =
    record {
      is = enter_marked _ _ _ _ _ _ _ c.find.ensures _ c.in-Some.is c.if-declared.true _ c.set_cell.ensures;
      held = (token_marked _ _ _ _ c.requires _ _ c.set_cell.ensures, grown_none _);
    }

pub returns-else-declared : goal.returns-else-declared
returns-else-declared c =
    record {
      is = enter_there _ _ _ _ _ _ _ c.find.ensures _ c.in-Some.is c.if-declared.false;
      held = (c.requires, grown_none _);
    }

pub returns-then-add_row : goal.returns-then-add_row
returns-then-add_row c =
    let m : c.if-declared-2.mark ≡ flag c.args.declared = elim c.if-declared-2.branch [
      | then-declared-2 w ↦ w.mark-is ∙ rw w.if-declared-2.true
      | else-declared-2 w ↦ w.mark-is ∙ rw w.if-declared-2.false
    ] in
    record {
      is = enter_new _ _ _ _ _ _ _ c.find.ensures c.in-None.is _ m _ _ c.add_row.ensures c.if-add_row.true;
      held = (
        token_new _ _ _ _ c.requires _ _ _ _ _ c.add_row.ensures (sym c.find.ensures ∙ c.in-None.is) c.if-add_row.true _ c.enter.ensures.grown c.enter.ensures.led,
        c.enter.ensures.grown,
      );
    }

pub returns-else-add_row : goal.returns-else-add_row
returns-else-add_row c =
    let m : c.if-declared-2.mark ≡ flag c.args.declared = elim c.if-declared-2.branch [
      | then-declared-2 w ↦ w.mark-is ∙ rw w.if-declared-2.true
      | else-declared-2 w ↦ w.mark-is ∙ rw w.if-declared-2.false
    ] in
    record {
      is = enter_full _ _ _ _ _ _ _ c.find.ensures c.in-None.is _ m _ _ c.add_row.ensures c.if-add_row.false;
      held = (token_full _ _ _ _ c.requires _ _ _ _ _ c.add_row.ensures c.if-add_row.false, grown_none _);
    }
