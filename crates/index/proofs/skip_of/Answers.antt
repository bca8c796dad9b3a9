-- `index::skip_of`.
use Rattle.std.proofs.Common.{sym, refl, arith}
use lib.ListN.{get_or-eq_default}
use Rattle.index.proofs.skip_of.Goals as goal

pub overflow_cast-result : goal.overflow_cast-result
overflow_cast-result c = omega (arith, c.shared_slice_known-1.given c.args.k)

pub returns-then-k-skips : goal.returns-then-k-skips
returns-then-k-skips c =
    record {
      is = refl;
      fits = omega (arith, c.shared_slice_known-1.given c.args.k);
    }

pub returns-else-k-skips : goal.returns-else-k-skips
returns-else-k-skips c =
    record {
      is = sym (get_or-eq_default c.args.skips.now 0 {n = c.args.k} c.if-k-skips.false);
      fits = omega arith;
    }
