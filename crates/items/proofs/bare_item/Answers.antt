-- `items::bare_item`.
use mathlib.Core.Path.{◌∙◌}
use mathlib.Core.Bool.{false}
use native.Mathlib.Omega.{arith}
use Rattle.grammar.proofs.Spares.{tracked_passed, tracked_pushed}
use Rattle.items.proofs.Spares.{carried_tracked}
use Rattle.grammar.proofs.Steps.{passed_here, passed_fits, refused_put}
use Rattle.items.proofs.Symbols.{carried1, carried_moves, from_passed, to_passed, end_passed, none_passed, token_moves, bare_found_lem, bare_none}
use Rattle.items.proofs.bare_item.Goals as goal

pub overflow_cast-from : goal.overflow_cast-from
overflow_cast-from c =
    let h = c.requires.0 in
    passed_fits _ _ _ h (from_passed _ _ _ c.parse_token.ensures.tokened _ _ _ c.in-Ok.is)

pub overflow_cast-to : goal.overflow_cast-to
overflow_cast-to c =
    let h = c.requires.0 in
    passed_fits _ _ _ h (to_passed _ _ _ c.parse_token.ensures.tokened _ _ _ c.in-Ok.is)

pub symbol_kind-kind-requires : goal.symbol_kind-kind-requires
symbol_kind-kind-requires c = rw c.count_of.ensures c.requires.1.held

pub pass_on-q-requires : goal.pass_on-q-requires
pass_on-q-requires c =
    let h = c.requires.0 in
    passed_here _ _ _ h (end_passed _ _ _ c.parse_token.ensures.tokened _ _ _ c.in-Ok.is)

pub overflow_cast-made : goal.overflow_cast-made
overflow_cast-made c =
    let h = c.requires.0 in
    passed_fits _ _ _ h (end_passed _ _ _ c.parse_token.ensures.tokened _ _ _ c.in-Ok.is)

pub overflow_cast-result : goal.overflow_cast-result
overflow_cast-result c =
    let h = c.requires.0 in
    passed_fits _ _ _ h (none_passed _ _ _ c.parse_token.ensures.tokened _ h c.in-Err.is)

pub returns-in-Ok : goal.returns-in-Ok
returns-in-Ok c =
    let e = c.in-Ok.is in
    record {
      is = carried1 _ _ _ c.carry.ensures _ ∙ bare_found_lem _ _ _ _ _ _ c.parse_token.ensures.value _ _ _ _ _ _ _ e c.count_of.ensures c.symbol_kind-kind.ensures c.push-r.ensures.is c.pass_on-q.ensures.is;
      moved = carried_moves _ _ _ c.carry.ensures _ _ (token_moves _ _ _ c.parse_token.ensures.tokened _ _ _ e _ _ _ c.pass_on-q.ensures.moved c.push-r.ensures.kept);
      indexed = carried_tracked _ _ _ c.carry.ensures _ _ _ (tracked_passed c.args.src.now 0 3 0 false c.in-Ok.end c.push-r.result.answer c.push-r.result.state _ _ _ _ c.pass_on-q.ensures.is (tracked_pushed _ 0 3 0 c.args.s 8 _ _ _ _ _ _ _ (λ z. omega arith) c.push-r.ensures.is c.requires.1));
    }

pub returns-in-Err : goal.returns-in-Err
returns-in-Err c =
    record {
      is = bare_none _ _ _ _ _ _ c.parse_token.ensures.value _ c.in-Err.is;
      moved = refused_put _ _ _ c.requires.0.within;
      indexed = c.requires.1;
    }
