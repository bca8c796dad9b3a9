-- `usage::list_unused`: both sorts are written if there is room.
use mathlib.Core.Path.{refl}
use native.Mathlib.Omega.{arith}
use Rattle.usage.proofs.Picked.{written_size}
use Rattle.usage.proofs.Passes.{base_low, crowds_yes, crowds_no, crowded_by, first_room, second_room, filled_by}
use Rattle.usage.proofs.list_unused.Goals as goal

pub returns-then-is_crowded : goal.returns-then-is_crowded
returns-then-is_crowded c = (crowded_by _ (rw ((c.zero.auto.t)) at (crowds_yes _ _ c.if-is_crowded.true c.is_crowded.ensures)), c.zero.ensures)

pub write_sort-at-requires : goal.write_sort-at-requires
write_sort-at-requires c =
    (rw c.rule_sort.ensures (omega arith), rw c.rule_sort.ensures (first_room c.zero.new.t (crowds_no _ _ c.if-is_crowded.false c.is_crowded.ensures) _ refl))

pub write_sort-all-requires : goal.write_sort-all-requires
write_sort-all-requires c =
    let w = rw c.rule_sort.ensures at c.write_sort-at.ensures in
    (rw c.token_sort.ensures (base_low _ (rw c.rule_sort.ensures at c.rule_sort.type_inv.1.1.1.1.0.1)), rw c.token_sort.ensures (second_room c.zero.new.t (crowds_no _ _ c.if-is_crowded.false c.is_crowded.ensures) (written_size w) w))

pub returns : goal.returns
returns c =
    let f = crowds_no _ _ c.if-is_crowded.false c.is_crowded.ensures in
    filled_by _ (rw ((c.zero.auto.t)) at f) c.zero.ensures (rw c.rule_sort.ensures at c.write_sort-at.ensures) (rw c.token_sort.ensures at c.write_sort-all.ensures)
