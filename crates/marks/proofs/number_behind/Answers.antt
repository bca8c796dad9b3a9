-- `marks::number_behind`.
use mathlib.Core.Path.{◌∙◌, ap, refl}
use native.Mathlib.Omega.{arith}
use Rattle.scan.proofs.Tuples.{err_is}
use Rattle.grammar.specs.State.{Out1}
use Rattle.grammar.proofs.Steps.{behind_one, nearer}
use Rattle.marks.proofs.Laws.{number_other, number_large, number_taken, number_no, number_wide, number_counts, standing}
use Rattle.marks.proofs.number_behind.Goals as goal

pub returns-then-s-ne4 : goal.returns-then-s-ne4
returns-then-s-ne4 c =
    record {
      is = number_other _ _ _ _ _ _ c.if-s-ne4.true;
      moved = standing _ _ _;
      counted = refl;
    }

pub returns-then-v-gt4294967295 : goal.returns-then-v-gt4294967295
returns-then-v-gt4294967295 c =
    record {
      is = number_large _ _ _ _ _ _ c.if-s-ne4.false _ c.parse_int.ensures.value _ _ c.in-Ok.is c.if-v-gt4294967295.true;
      moved = standing _ _ _;
      counted = refl;
    }

-- the digits end in the source
pub pass_on-requires : goal.pass_on-requires
pass_on-requires c =
    let x = c.parse_int.ensures.counted in
    let y = rw c.in-Ok.is at x in
    record { within = y.1; short = c.requires.short }

-- and a number stands in it
pub overflow_cast-result-in-Err-TooLarge : goal.overflow_cast-result-in-Err-TooLarge
overflow_cast-result-in-Err-TooLarge c =
    let x = c.parse_int.ensures.counted in
    let y = rw (err_is c.in-Err-TooLarge.is c.in-Err-TooLarge.field-0-is) at x in
    let l = c.requires.within in
    let m = c.requires.short in
    omega arith

pub returns-else-v-gt4294967295 : goal.returns-else-v-gt4294967295
returns-else-v-gt4294967295 c =
    let x = c.parse_int.ensures.counted in
    let y = rw c.in-Ok.is at x in
    let l = y.0 in
    let e = number_taken _ _ _ _ _ _ c.if-s-ne4.false _ c.parse_int.ensures.value _ _ _ c.in-Ok.is c.if-v-gt4294967295.false (behind_one _ _ _ _ _ _ c.pass_on.ensures.is _ _ c.push-r.ensures.is) in
    record {
      is = e;
      moved = nearer _ _ _ _ _ _ (omega arith) (rw c.push-r.ensures.kept at c.pass_on.ensures.moved);
      counted = ap (λ (o : Out1). o.state.counts) e ∙ number_counts _ _ _ _ _ _;
    }

pub returns-in-Err-NoDigits : goal.returns-in-Err-NoDigits
returns-in-Err-NoDigits c =
    record {
      is = number_no _ _ _ _ _ _ c.if-s-ne4.false _ c.parse_int.ensures.value _ (err_is c.in-Err-NoDigits.is c.in-Err-NoDigits.field-0-is);
      moved = standing _ _ _;
      counted = refl;
    }

pub returns-in-Err-TooLarge : goal.returns-in-Err-TooLarge
returns-in-Err-TooLarge c =
    record {
      is = number_wide _ _ _ _ _ _ c.if-s-ne4.false _ c.parse_int.ensures.value _ (err_is c.in-Err-TooLarge.is c.in-Err-TooLarge.field-0-is);
      moved = standing _ _ _;
      counted = refl;
    }
