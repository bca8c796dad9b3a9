-- `index::known_end`.
use Rattle.std.proofs.Common.{◌/◌, arith}
use Rattle.index.proofs.Skips.{taken_none, skips_known}
use Rattle.index.proofs.known_end.Goals as goal

pub returns-then-p-ne0 : goal.returns-then-p-ne0
returns-then-p-ne0 c =
    record {
      behind = omega arith;
      known = λ ix r S. taken_none ix r _ _ (omega arith);
    }

pub returns-then-p-end : goal.returns-then-p-end
returns-then-p-end c =
    record {
      behind = omega (arith, c.if-p-end.true);
      known = λ ix r S. skips_known ix r _ S c.args.p (c.args.p / 16) _ (omega arith) c.skip_of-end.ensures.is;
    }

pub returns-else-p-end : goal.returns-else-p-end
returns-else-p-end c =
    record {
      behind = omega arith;
      known = λ ix r S. taken_none ix r _ _ (omega arith);
    }
