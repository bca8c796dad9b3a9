-- `settings::expect_decl`: spacing, a number that is given, spacing.
use Rattle.scan.proofs.Tuples.{err_is}
use Rattle.grammar.proofs.Steps.{gap_passed, passed_on, passed_here, passed_fits, onward_passed, still}
use Rattle.settings.proofs.Laws.{int_passed, int_none, int_large, expect_refused, expect_empty, expect_large, expect_value}
use Rattle.settings.proofs.expect_decl.Goals as goal

pub parse_int-requires : goal.parse_int-requires
parse_int-requires c = ((gap_passed _ _ _ _ _ c.pass_gap.ensures.moved c.in-Ok.is)).inside

pub overflow_cast-i : goal.overflow_cast-i
overflow_cast-i c = passed_fits _ _ _ c.requires ((gap_passed _ _ _ _ _ c.pass_gap.ensures.moved c.in-Ok.is))

pub overflow_cast-j : goal.overflow_cast-j
overflow_cast-j c =
    passed_fits _ _ _ c.requires ((passed_on _ _ _ _ ((gap_passed _ _ _ _ _ c.pass_gap.ensures.moved c.in-Ok.is)) (int_passed _ _ _ _ _ c.parse_int.ensures.counted c.in-Ok-parse_int.is)))

pub pass_on-requires : goal.pass_on-requires
pass_on-requires c =
    passed_here _ _ _ c.requires ((passed_on _ _ _ _ ((gap_passed _ _ _ _ _ c.pass_gap.ensures.moved c.in-Ok.is)) (int_passed _ _ _ _ _ c.parse_int.ensures.counted c.in-Ok-parse_int.is)))

pub overflow_cast-result : goal.overflow_cast-result
overflow_cast-result c =
    rw (int_none _ _ _ _ c.parse_int.ensures.counted (err_is c.in-Err-NoDigits.is c.in-Err-NoDigits.field-0-is)) (passed_fits _ _ _ c.requires ((gap_passed _ _ _ _ _ c.pass_gap.ensures.moved c.in-Ok.is)))

pub overflow_cast-result-in-Err-TooLarge : goal.overflow_cast-result-in-Err-TooLarge
overflow_cast-result-in-Err-TooLarge c =
    rw (int_large _ _ _ _ c.parse_int.ensures.counted (err_is c.in-Err-TooLarge.is c.in-Err-TooLarge.field-0-is)) (passed_fits _ _ _ c.requires ((gap_passed _ _ _ _ _ c.pass_gap.ensures.moved c.in-Ok.is)))

pub returns-in-Ok-parse_int : goal.returns-in-Ok-parse_int
returns-in-Ok-parse_int c =
    record {
      is = expect_value _ _ _ _ c.pass_gap.ensures.is _ _ _ c.in-Ok.is _ c.parse_int.ensures.value _ _ _ _ _ _ c.in-Ok-parse_int.is c.expect_given-r.ensures.is c.pass_on.ensures.is;
      moved = onward_passed _ _ _ _ _ _ c.pass_on.ensures.moved c.expect_given-r.ensures.kept ((passed_on _ _ _ _ ((gap_passed _ _ _ _ _ c.pass_gap.ensures.moved c.in-Ok.is)) (int_passed _ _ _ _ _ c.parse_int.ensures.counted c.in-Ok-parse_int.is)));
    }

pub returns-in-Err-NoDigits : goal.returns-in-Err-NoDigits
returns-in-Err-NoDigits c =
    record {
      is = expect_empty _ _ _ _ c.pass_gap.ensures.is _ _ _ c.in-Ok.is _ c.parse_int.ensures.value _ (err_is c.in-Err-NoDigits.is c.in-Err-NoDigits.field-0-is);
      moved = still _ _ c.requires;
    }

pub returns-in-Err-TooLarge : goal.returns-in-Err-TooLarge
returns-in-Err-TooLarge c =
    record {
      is = expect_large _ _ _ _ c.pass_gap.ensures.is _ _ _ c.in-Ok.is _ c.parse_int.ensures.value _ (err_is c.in-Err-TooLarge.is c.in-Err-TooLarge.field-0-is);
      moved = still _ _ c.requires;
    }

pub returns-in-Err : goal.returns-in-Err
returns-in-Err c =
    record {
      is = expect_refused _ _ _ _ c.pass_gap.ensures.is _ _ c.in-Err.is;
      moved = still _ _ c.requires;
    }
