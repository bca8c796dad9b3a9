-- `sections::admit`: kind, sizes, length, UTF-8.
use Rattle.sections.proofs.Laws.{bad_kind, bad_index, too_long, is_text, no_text, bad_byte}
use Rattle.sections.proofs.admit.Goals as goal

pub returns-then-kind : goal.returns-then-kind
returns-then-kind c =
    record {
      is = bad_kind _ _ _ c.if-kind.true;
      short = tt;
    }

pub returns-then-not-sized : goal.returns-then-not-sized
returns-then-not-sized c =
    record {
      is = bad_index _ _ _ c.if-kind.false c.if-not-sized.true-raw;
      short = tt;
    }

pub returns-then-src-gt65536 : goal.returns-then-src-gt65536
returns-then-src-gt65536 c =
    record {
      is = too_long _ _ _ c.if-kind.false c.if-not-sized.false-raw c.if-src-gt65536.true;
      short = tt;
    }

pub overflow_cast-result : goal.overflow_cast-result
overflow_cast-result c = bad_byte c.args.src.now _ _ c.if-src-gt65536.false c.check.ensures.below c.in-Err.is

pub returns-in-Ok : goal.returns-in-Ok
returns-in-Ok c =
    record {
      is = is_text _ _ _ c.if-kind.false c.if-not-sized.false-raw c.if-src-gt65536.false _ c.check.ensures.value c.in-Ok.is;
      short = c.if-src-gt65536.false;
    }

pub returns-in-Err : goal.returns-in-Err
returns-in-Err c =
    record {
      is = no_text _ _ _ c.if-kind.false c.if-not-sized.false-raw c.if-src-gt65536.false _ c.check.ensures.value _ c.in-Err.is;
      short = tt;
    }
