-- `finder::seek`: what the name leads to lies in the slots that are left.
use native.Mathlib.Omega.{arith}
use native.Mathlib.Nat.{sub-zero}
use lib.ListN.{length}
use Rattle.finder.proofs.Laws.{left_start, left_free, left_on, tells_row, behind_start, behind_on}
use Rattle.finder.proofs.seek.Goals as goal

pub returns-then-m-eq0 : goal.returns-then-m-eq0
returns-then-m-eq0 c asked led = tt

pub loop-init : goal.loop-init
loop-init c =
    (c.seat-p.ensures.inside, rw (sub-zero (length c.args.ix.now)) (left_start _ _ _ _ _ _ _ _ _ _ c.number_of-x.ensures c.seat-p.ensures.is), λ v. rw (sub-zero (length c.args.ix.now)) (behind_start _ v _ _ c.seat-p.ensures.is))

pub returns-then-v-eq0 : goal.returns-then-v-eq0
returns-then-v-eq0 c = left_free _ _ _ _ _ _ _ _ _ _ (omega arith) c.loop.invariant.1 c.if-v-eq0.true

pub returns-then-v : goal.returns-then-v
returns-then-v c asked led = tt

pub returns-then-row_has : goal.returns-then-row_has
returns-then-row_has c asked led =
    tells_row asked _ _ _ _ _ _ _ _ _ _ _ (omega arith) c.number_of-x.ensures c.loop.invariant.2 _ _ c.row_of-r.ensures.is c.row_of-r.ensures.low c.if-v-eq0.false c.if-v.false c.row_has.ensures c.if-row_has.true

pub loop-preserved : goal.loop-preserved
loop-preserved c = (
  c.next_slot-p.ensures.inside,
  left_on _ _ _ _ _ _ _ _ _ _ (omega arith) c.loop.invariant.1 c.if-v.false _ (rw (← c.row_of-r.ensures.is) c.row_has.ensures) c.if-row_has.false _ c.next_slot-p.ensures.is _ (omega arith),
  λ v. behind_on _ v _ _ _ (omega arith) (c.loop.invariant.2 v) c.if-v-eq0.false _ c.next_slot-p.ensures.is _ (omega arith),
)

pub returns : goal.returns
returns c asked led = tt
