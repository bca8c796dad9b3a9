-- `rules::colon_type`.
use native.Mathlib.Omega.{arith}
use Rattle.grammar.proofs.Steps.{passed_on, passed_fits, still}
use Rattle.settings.proofs.Laws.{colon_from, colon_to, colon_none}
use Rattle.rules.proofs.Laws.{colon_at, colon_upto, colon_open}
use Rattle.rules.proofs.colon_type.Goals as goal

pub overflow_cast-result : goal.overflow_cast-result
overflow_cast-result c = passed_fits _ _ _ c.requires ((colon_from _ _ _ _ _ _ c.parse_to_single_colon.ensures.colon_texts c.in-Ok.is))

pub overflow_cast-result-in-Ok : goal.overflow_cast-result-in-Ok
overflow_cast-result-in-Ok c =
    passed_fits _ _ _ c.requires (passed_on _ _ _ _ ((colon_from _ _ _ _ _ _ c.parse_to_single_colon.ensures.colon_texts c.in-Ok.is)) (colon_to _ _ _ _ _ _ c.parse_to_single_colon.ensures.colon_texts c.in-Ok.is))

pub overflow_cast-result-in-Err : goal.overflow_cast-result-in-Err
overflow_cast-result-in-Err c = let h = colon_none _ _ _ _ c.parse_to_single_colon.ensures.colon_texts c.in-Err.is in omega (arith, c.requires.short)

pub returns-in-Ok : goal.returns-in-Ok
returns-in-Ok c =
    record {
      is = colon_upto _ _ _ c.parse_to_single_colon.ensures.value _ _ _ c.in-Ok.is;
      moved = colon_at _ _ _ _ _ _ c.parse_to_single_colon.ensures.colon_texts c.in-Ok.is;
    }

pub returns-in-Err : goal.returns-in-Err
returns-in-Err c =
    record {
      is = colon_open _ _ _ c.parse_to_single_colon.ensures.value _ c.in-Err.is;
      moved = still _ _ c.requires;
    }
