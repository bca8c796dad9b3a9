-- `items::quoted_item`.
use mathlib.Core.Path.{refl}
use Rattle.grammar.proofs.Steps.{passed_here, passed_fits, refused_put}
use Rattle.items.proofs.Symbols.{from_passed, to_passed, end_passed, none_passed, token_moves, quoted_found_lem, quoted_none}
use Rattle.items.proofs.quoted_item.Goals as goal

pub overflow_cast-p : goal.overflow_cast-p
overflow_cast-p c =
    let h = c.requires.0 in
    passed_fits _ _ _ h (from_passed _ _ _ c.parse_token.ensures.tokened _ _ _ c.in-Ok.is)

pub overflow_cast-p-in-Ok : goal.overflow_cast-p-in-Ok
overflow_cast-p-in-Ok c =
    let h = c.requires.0 in
    passed_fits _ _ _ h (to_passed _ _ _ c.parse_token.ensures.tokened _ _ _ c.in-Ok.is)

pub quoted_rows-requires : goal.quoted_rows-requires
quoted_rows-requires c =
    let h = c.requires.0 in
    (passed_here _ _ _ h (end_passed _ _ _ c.parse_token.ensures.tokened _ _ _ c.in-Ok.is), c.requires.1)

pub overflow_cast-result : goal.overflow_cast-result
overflow_cast-result c =
    let h = c.requires.0 in
    passed_fits _ _ _ h (none_passed _ _ _ c.parse_token.ensures.tokened _ h c.in-Err.is)

pub returns-in-Ok : goal.returns-in-Ok
returns-in-Ok c =
    let e = c.in-Ok.is in
    record {
      is = quoted_found_lem _ _ _ _ _ _ c.parse_token.ensures.value _ _ _ _ e c.quoted_rows.ensures.is;
      moved = token_moves _ _ _ c.parse_token.ensures.tokened _ _ _ e _ _ _ c.quoted_rows.ensures.moved refl;
      indexed = c.quoted_rows.ensures.indexed;
    }

pub returns-in-Err : goal.returns-in-Err
returns-in-Err c =
    record {
      is = quoted_none _ _ _ _ _ _ c.parse_token.ensures.value _ c.in-Err.is;
      moved = refused_put _ _ _ c.requires.0.within;
      indexed = c.requires.1;
    }
