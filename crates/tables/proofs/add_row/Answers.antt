-- `tables::add_row`: the cells of the row so far are written.
use Prim.Native.Nat.{ℕ, ◌+◌, ◌*◌, ◌≤◌}
use mathlib.Core.Path.{◌≡◌, refl, ◌∙◌, sym, ap}
use mathlib.Core.List.{List}
use native.Mathlib.Omega.{arith}
use lib.ListN.{length, take, set, get_or}
use lib.Seq.{take_all}
use Rattle.tables.proofs.Laws.{row_in, put_snoc, room_some, room_full, room_last, room_none, add_yes, add_no}
use Rattle.tables.proofs.add_row.Goals as goal

-- where there is room, the whole row lies in the table
whole : (c : goal.Else-t-w) → c.args.n * length c.args.row.now + length c.args.row.now ≤ length c.args.t.now
whole c = row_in _ _ _ (omega arith) c.if-t-w.false

pub returns-then-w-eq0 : goal.returns-then-w-eq0
returns-then-w-eq0 c = add_no _ _ _ (room_none _ _ _ c.if-w-eq0.true)

pub returns-then-n-eq4294967295 : goal.returns-then-n-eq4294967295
returns-then-n-eq4294967295 c = add_no _ _ _ (room_last _ _ _ (omega arith))

pub returns-then-t-w : goal.returns-then-t-w
returns-then-t-w c = add_no _ _ _ (room_full _ _ _ c.if-t-w.true)

pub overflow_mul-at : goal.overflow_mul-at
overflow_mul-at c = omega (arith, whole c)

pub loop-i-init : goal.loop-i-init
loop-i-init c = (whole c, refl)

pub loop-i-preserved : goal.loop-i-preserved
loop-i-preserved c =
    let a = c.args in (
      c.loop-i.invariant.0,
      ap (λ (x : List ℕ). set x (a.n * length a.row.now + c.loop-i.i) (get_or a.row.now c.loop-i.i 0)) c.loop-i.invariant.1 ∙ sym (put_snoc a.row.now a.t.now _ c.loop-i.i (omega arith)),
    )

pub returns : goal.returns
returns c =
    let a = c.args in
    let e : take c.loop-i.i a.row.now ≡ a.row.now = take_all c.loop-i.i a.row.now (omega arith) in
    rw (c.loop-i.invariant.1, e) (add_yes _ _ _ (room_some _ _ _ c.if-t-w.false (omega arith)))
