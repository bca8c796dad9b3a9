-- `items::prec_name`.
use mathlib.Core.Path.{◌∙◌}
use mathlib.Core.Bool.{false}
use Rattle.grammar.proofs.Spares.{tracked_passed}
use Rattle.items.proofs.Spares.{carried_tracked}
use Rattle.grammar.proofs.Steps.{passed_here, passed_fits, onward_passed, still}
use Rattle.items.proofs.Symbols.{carried1, carried_passed, from_passed, to_passed, end_passed, none_passed, prec_found_lem, prec_none}
use Rattle.items.proofs.prec_name.Goals as goal

pub overflow_cast-from : goal.overflow_cast-from
overflow_cast-from c =
    let h = c.requires.0 in
    passed_fits _ _ _ h (from_passed _ _ _ c.parse_token.ensures.tokened _ _ _ c.in-Ok.is)

pub overflow_cast-to : goal.overflow_cast-to
overflow_cast-to c =
    let h = c.requires.0 in
    passed_fits _ _ _ h (to_passed _ _ _ c.parse_token.ensures.tokened _ _ _ c.in-Ok.is)

pub enter-e-requires : goal.enter-e-requires
enter-e-requires c = c.requires.1

pub pass_on-q-requires : goal.pass_on-q-requires
pass_on-q-requires c =
    let h = c.requires.0 in
    passed_here _ _ _ h (end_passed _ _ _ c.parse_token.ensures.tokened _ _ _ c.in-Ok.is)

pub overflow_cast-made : goal.overflow_cast-made
overflow_cast-made c =
    let h = c.requires.0 in
    passed_fits _ _ _ h (end_passed _ _ _ c.parse_token.ensures.tokened _ _ _ c.in-Ok.is)

pub overflow_cast-result : goal.overflow_cast-result
overflow_cast-result c =
    let h = c.requires.0 in
    passed_fits _ _ _ h (none_passed _ _ _ c.parse_token.ensures.tokened _ h c.in-Err.is)

pub returns-in-Ok : goal.returns-in-Ok
returns-in-Ok c =
    let e = c.in-Ok.is in
    record {
      is = carried1 _ _ _ c.carry.ensures _ ∙ prec_found_lem _ _ _ _ _ c.parse_token.ensures.value _ _ _ _ _ _ e c.enter-e.ensures.is c.pass_on-q.ensures.is c.with_prec-made.ensures;
      moved = carried_passed _ _ _ c.carry.ensures _ _ (onward_passed _ _ _ _ _ _ c.pass_on-q.ensures.moved c.enter-e.ensures.kept (end_passed _ _ _ c.parse_token.ensures.tokened _ _ _ e));
      indexed = carried_tracked _ _ _ c.carry.ensures _ _ _ (tracked_passed c.args.src.now 0 3 0 false c.in-Ok.end c.enter-e.result.answer c.enter-e.result.state _ _ _ _ c.pass_on-q.ensures.is c.enter-e.ensures.indexed);
    }

pub returns-in-Err : goal.returns-in-Err
returns-in-Err c =
    record {
      is = prec_none _ _ _ _ _ c.parse_token.ensures.value _ c.in-Err.is;
      moved = still _ _ c.requires.0;
      indexed = c.requires.1;
    }
