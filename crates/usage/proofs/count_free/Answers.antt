-- `usage::count_free`: the rows passed so far that are to be listed are counted.
use mathlib.Core.Path.{◌≡◌}
use native.Mathlib.Omega.{arith}
use Rattle.usage.proofs.Picked.{says_yes, says_no, counted_none, counted_yes, counted_no, picks_bound}
use Rattle.usage.proofs.count_free.Goals as goal
use Rattle.usage.proofs.count_free.Goals.{else-is_listed, then-is_listed}

pub loop-row-init : goal.loop-row-init
loop-row-init c = counted_none _

pub is_listed-requires : goal.is_listed-requires
is_listed-requires c = c.requires

pub overflow_add-found : goal.overflow_add-found
overflow_add-found c = omega (arith, picks_bound c.loop-row.invariant.picks, c.loop-row.invariant.count_is)

pub loop-row-preserved : goal.loop-row-preserved
loop-row-preserved c =
    elim c.if-is_listed.branch [ then-is_listed w ↦ counted_yes _ c.loop-row.invariant (says_yes _ _ w.if-is_listed.true c.is_listed.ensures) w.found-is | else-is_listed w ↦ counted_no _ c.loop-row.invariant (says_no _ _ w.if-is_listed.false c.is_listed.ensures) w.found-is ]

pub returns : goal.returns
returns c =
    let e : c.loop-row.row ≡ c.args.z.count = omega arith in
    rw e at c.loop-row.invariant
