-- `index::probe`: what is left of the walk gives the whole's answer.
use Rattle.std.proofs.Common.{true, false, length, arith}
use native.Mathlib.Nat.{sub-zero}
use Rattle.tables.proofs.Laws.{has_name_lem}
use Rattle.index.proofs.Laws.{look_nowhere, look_start, look_free, look_hit, look_on, look_end}
use Rattle.index.proofs.probe.Goals as goal

pub returns-then-m-eq0 : goal.returns-then-m-eq0
returns-then-m-eq0 c = look_nowhere _ _ _ _ _ c.if-m-eq0.true _ _

pub loop-init : goal.loop-init
loop-init c = (c.home_slot-p.ensures.inside, rw (sub-zero (length c.args.ix.now)) (look_start _ _ _ _ _ _ _ _ c.home_slot-p.ensures.is))

pub returns-then-v-eq0 : goal.returns-then-v-eq0
returns-then-v-eq0 c = look_free _ _ c.loop.p (omega arith) _ _ c.loop.invariant.1 c.if-v-eq0.true

pub returns-then-same_part : goal.returns-then-same_part
returns-then-same_part c =
    look_hit _ _ c.loop.p (omega arith) _ _ c.loop.invariant.1 c.if-v-eq0.false
    (has_name_lem _ _ _ _ _ _ _ _ _ _ c.cell-c.ensures c.cell-d.ensures c.same_part.ensures true c.if-same_part.true)

pub loop-preserved : goal.loop-preserved
loop-preserved c = (
  c.next_slot-p.ensures.inside,
  look_on _ _ c.loop.p (omega arith) _ _ c.loop.invariant.1 c.if-v-eq0.false
      (has_name_lem _ _ _ _ _ _ _ _ _ _ c.cell-c.ensures c.cell-d.ensures c.same_part.ensures false c.if-same_part.false) _ c.next_slot-p.ensures.is _ (omega arith),
)

pub returns : goal.returns
returns c = look_end _ _ c.loop.p (omega arith) _ _ c.loop.invariant.1
