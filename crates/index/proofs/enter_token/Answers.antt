-- `index::enter_token`: that of the tables' own, and the index follows.
use Rattle.std.proofs.Common.{◌≡◌, ◌∙◌, arith}
use Rattle.tables.specs.Table.{flag}
use Rattle.tables.proofs.Laws.{added_counts, enter_marked, enter_there, enter_new, enter_full}
use Rattle.index.proofs.Laws.{token_marked, token_new, token_full}
use Rattle.index.proofs.enter_token.Goals as goal
use Rattle.index.proofs.enter_token.Goals.{then-declared-2, else-declared-2}

pub enter_row-requires : goal.enter_row-requires
enter_row-requires c = omega (arith, added_counts _ _ _ _ _ c.add_row.ensures c.if-add_row.true)

pub overflow_add-result : goal.overflow_add-result
overflow_add-result c = omega (arith, added_counts _ _ _ _ _ c.add_row.ensures c.if-add_row.true)

pub returns-then-declared : goal.returns-then-declared
returns-then-declared c =
    record {
      is = enter_marked _ _ _ _ _ _ _ c.find.ensures _ c.in-Some.is c.if-declared.true _ c.set_cell.ensures;
      indexed = token_marked _ _ _ _ c.requires _ _ c.set_cell.ensures;
    }

pub returns-else-declared : goal.returns-else-declared
returns-else-declared c =
    record {
      is = enter_there _ _ _ _ _ _ _ c.find.ensures _ c.in-Some.is c.if-declared.false;
      indexed = c.requires;
    }

pub returns-then-add_row : goal.returns-then-add_row
returns-then-add_row c =
    let m : c.if-declared-2.mark ≡ flag c.args.declared = elim c.if-declared-2.branch [
      | then-declared-2 w ↦ w.mark-is ∙ rw w.if-declared-2.true
      | else-declared-2 w ↦ w.mark-is ∙ rw w.if-declared-2.false
    ] in
    record {
      is = enter_new _ _ _ _ _ _ _ c.find.ensures c.in-None.is _ m _ _ c.add_row.ensures c.if-add_row.true;
      indexed = token_new _ _ _ _ c.requires _ _ _ _ _ c.add_row.ensures c.if-add_row.true _ c.enter_row.ensures;
    }

pub returns-else-add_row : goal.returns-else-add_row
returns-else-add_row c =
    let m : c.if-declared-2.mark ≡ flag c.args.declared = elim c.if-declared-2.branch [
      | then-declared-2 w ↦ w.mark-is ∙ rw w.if-declared-2.true
      | else-declared-2 w ↦ w.mark-is ∙ rw w.if-declared-2.false
    ] in
    record {
      is = enter_full _ _ _ _ _ _ _ c.find.ensures c.in-None.is _ m _ _ c.add_row.ensures c.if-add_row.false;
      indexed = token_full _ _ _ _ c.requires _ _ _ _ _ c.add_row.ensures c.if-add_row.false;
    }
