-- `settings::param_decl`: spacing, the name to the colon, then the type.
use mathlib.Core.Path.{refl}
use native.Mathlib.Omega.{arith}
use Rattle.grammar.proofs.Steps.{gap_passed, passed_on, passed_here, passed_fits, onward_passed, still}
use Rattle.settings.proofs.Laws.{colon_passed, colon_from, colon_to, colon_none, param_refused, param_open, param_text_lem}
use Rattle.settings.proofs.param_decl.Goals as goal

pub parse_to_single_colon-requires : goal.parse_to_single_colon-requires
parse_to_single_colon-requires c = ((gap_passed _ _ _ _ _ c.pass_gap.ensures.moved c.in-Ok.is)).inside

pub overflow_cast-p : goal.overflow_cast-p
overflow_cast-p c =
    passed_fits _ _ _ c.requires ((passed_on _ _ _ _ ((gap_passed _ _ _ _ _ c.pass_gap.ensures.moved c.in-Ok.is)) (colon_from _ _ _ _ _ _ c.parse_to_single_colon.ensures.colon_texts c.in-Ok-parse_to_single_colon.is)))

pub overflow_cast-p-in-Ok-parse_to_single_colon : goal.overflow_cast-p-in-Ok-parse_to_single_colon
overflow_cast-p-in-Ok-parse_to_single_colon c =
    passed_fits _ _ _ c.requires ((passed_on _ _ _ _ ((passed_on _ _ _ _ ((gap_passed _ _ _ _ _ c.pass_gap.ensures.moved c.in-Ok.is)) (colon_from _ _ _ _ _ _ c.parse_to_single_colon.ensures.colon_texts c.in-Ok-parse_to_single_colon.is))) (colon_to _ _ _ _ _ _ c.parse_to_single_colon.ensures.colon_texts c.in-Ok-parse_to_single_colon.is)))

pub overflow_add-j : goal.overflow_add-j
overflow_add-j c =
    let h = ((passed_on _ _ _ _ ((gap_passed _ _ _ _ _ c.pass_gap.ensures.moved c.in-Ok.is)) (colon_passed _ _ _ _ _ _ c.parse_to_single_colon.ensures.colon_texts c.in-Ok-parse_to_single_colon.is))).inside in
    omega (arith, c.requires.short)

pub param_typed-requires : goal.param_typed-requires
param_typed-requires c =
    passed_here _ _ _ c.requires ((passed_on _ _ _ _ ((gap_passed _ _ _ _ _ c.pass_gap.ensures.moved c.in-Ok.is)) (colon_passed _ _ _ _ _ _ c.parse_to_single_colon.ensures.colon_texts c.in-Ok-parse_to_single_colon.is)))

pub overflow_cast-result : goal.overflow_cast-result
overflow_cast-result c =
    let h = colon_none _ _ _ _ c.parse_to_single_colon.ensures.colon_texts c.in-Err-parse_to_single_colon.is in
    omega (arith, c.requires.short)

pub returns-in-Ok-parse_to_single_colon : goal.returns-in-Ok-parse_to_single_colon
returns-in-Ok-parse_to_single_colon c =
    record {
      is = param_text_lem _ _ _ c.pass_gap.ensures.is _ _ c.in-Ok.is _ c.parse_to_single_colon.ensures.value _ _ _ _ c.in-Ok-parse_to_single_colon.is c.param_typed.ensures.is;
      moved = onward_passed _ _ _ _ _ _ c.param_typed.ensures.moved refl ((passed_on _ _ _ _ ((gap_passed _ _ _ _ _ c.pass_gap.ensures.moved c.in-Ok.is)) (colon_passed _ _ _ _ _ _ c.parse_to_single_colon.ensures.colon_texts c.in-Ok-parse_to_single_colon.is)));
    }

pub returns-in-Err-parse_to_single_colon : goal.returns-in-Err-parse_to_single_colon
returns-in-Err-parse_to_single_colon c =
    record {
      is = param_open _ _ _ c.pass_gap.ensures.is _ _ c.in-Ok.is _ c.parse_to_single_colon.ensures.value _ c.in-Err-parse_to_single_colon.is;
      moved = still _ _ c.requires;
    }

pub returns-in-Err : goal.returns-in-Err
returns-in-Err c =
    record {
      is = param_refused _ _ _ c.pass_gap.ensures.is _ c.in-Err.is;
      moved = still _ _ c.requires;
    }
