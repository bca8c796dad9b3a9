-- `index::next_slot`.
use Rattle.std.proofs.Common.{sym, arith}
use Rattle.index.proofs.Slots.{next_on, next_round}
use Rattle.index.proofs.next_slot.Goals as goal

pub returns-then-q-m : goal.returns-then-q-m
returns-then-q-m c =
    record {
      is = sym (next_on _ _ c.if-q-m.true);
      inside = omega arith;
    }

pub returns-else-q-m : goal.returns-else-q-m
returns-else-q-m c =
    record {
      is = sym (next_round _ _ c.if-q-m.false);
      inside = omega arith;
    }
