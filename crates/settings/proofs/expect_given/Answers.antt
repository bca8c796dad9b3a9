-- `settings::expect_given`: the first number of its kind, or a repeat.
use mathlib.Core.Path.{refl}
use Rattle.settings.proofs.Laws.{expect_first, expect_again}
use Rattle.settings.proofs.expect_given.Goals as goal
use Rattle.settings.proofs.expect_given.Goals.{else-rr, else-rr-2, then-rr, then-rr-2}

pub returns-in-None : goal.returns-in-None
returns-in-None c =
    record {
      is = expect_first _ _ _ _ _ _ _ ((elim c.if-rr.branch [ then-rr x ↦ rw x.if-rr.true x.e-is | else-rr x ↦ rw x.if-rr.false x.e-is ])) _ c.in-None.is c.with_expected-next.ensures;
      kept = refl;
    }

pub returns-after-rr-2 : goal.returns-after-rr-2
returns-after-rr-2 c =
    record {
      is = expect_again _ _ _ _ _ _ _ ((elim c.if-rr.branch [ then-rr x ↦ rw x.if-rr.true x.e-is | else-rr x ↦ rw x.if-rr.false x.e-is ])) _ _ _ _ _ c.in-Some.is ((elim c.if-rr-2.branch [ then-rr-2 x ↦ rw x.if-rr-2.true x.what-is | else-rr-2 x ↦ rw x.if-rr-2.false x.what-is ])) c.list_repeat.ensures.is;
      kept = c.list_repeat.ensures.kept;
    }
