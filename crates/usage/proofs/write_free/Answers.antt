-- `usage::write_free`: the rows passed so far that are to be listed are written, one behind the other.
use mathlib.Core.Path.{◌≡◌}
use native.Mathlib.Omega.{arith}
use Rattle.usage.proofs.Picked.{written_none, written_yes, written_no, wrote_yes, wrote_no, room_next, written_size}
use Rattle.usage.proofs.write_free.Goals as goal
use Rattle.usage.proofs.write_free.Goals.{else-write_one, then-write_one}

pub loop-row-init : goal.loop-row-init
loop-row-init c = written_none _ _ _ _

pub write_one-requires : goal.write_one-requires
write_one-requires c = (c.requires.0, room_next c.args.z.count _ _ _ _ _ _ c.requires.1 c.loop-row.invariant c.loop-row-test.true, c.requires.2)

pub overflow_add-next : goal.overflow_add-next
overflow_add-next c =
    let y = wrote_yes _ _ _ _ _ _ _ c.if-write_one.true c.write_one.ensures in
    omega (arith, room_next c.args.z.count _ _ _ _ _ _ c.requires.1 c.loop-row.invariant c.loop-row-test.true y.0, written_size c.loop-row.invariant)

pub loop-row-preserved : goal.loop-row-preserved
loop-row-preserved c =
    elim c.if-write_one.branch [ then-write_one w ↦ let y = wrote_yes _ _ _ _ _ _ _ w.if-write_one.true c.write_one.ensures in written_yes _ c.loop-row.invariant y.0 y.1 w.next-is | else-write_one w ↦ let y = wrote_no _ _ _ _ _ _ _ w.if-write_one.false c.write_one.ensures in written_no _ c.loop-row.invariant y.0 y.1 w.next-is ]

pub returns : goal.returns
returns c =
    let e : c.loop-row.row ≡ c.args.z.count = omega arith in
    rw e at c.loop-row.invariant
