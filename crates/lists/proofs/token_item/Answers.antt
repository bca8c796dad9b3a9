-- `lists::token_item`: the token is entered as declared, its tag has a row, and what stands behind it is passed.
use mathlib.Core.Path.{◌∙◌}
use native.Mathlib.Omega.{arith}
use Rattle.scan.proofs.Bytes.{told}
use Rattle.words.specs.Words.{Tokened}
use Rattle.grammar.proofs.Steps.{moves, refused_put}
use Rattle.lists.proofs.Laws.{token_found_lem, token_none}
use Rattle.lists.proofs.token_item.Goals as goal

pub overflow_cast-from : goal.overflow_cast-from
overflow_cast-from c =
    let h = told (Tokened _ _) c.in-Ok.is c.parse_token.ensures.tokened in
    omega (arith, c.requires.0.short)

pub overflow_cast-to : goal.overflow_cast-to
overflow_cast-to c =
    let h = told (Tokened _ _) c.in-Ok.is c.parse_token.ensures.tokened in
    omega (arith, c.requires.0.short)

pub enter-r-requires : goal.enter-r-requires
enter-r-requires c = c.requires.1

pub behind_word-requires : goal.behind_word-requires
behind_word-requires c = record { within = (told (Tokened _ _) c.in-Ok.is c.parse_token.ensures.tokened).3; short = c.requires.0.short }

pub overflow_cast-result : goal.overflow_cast-result
overflow_cast-result c =
    let h = told (Tokened _ _) c.in-Err.is c.parse_token.ensures.tokened in
    omega (arith, c.requires.0.within, c.requires.0.short)

pub returns-in-Ok : goal.returns-in-Ok
returns-in-Ok c =
    let h = told (Tokened _ _) c.in-Ok.is c.parse_token.ensures.tokened in
    record {
      is = token_found_lem _ _ _ _ _ _ _ c.parse_token.ensures.value _ _ _ _ _ _ _ _ _ _ _ _ c.in-Ok.is c.enter-r.ensures.is c.tag_row-q.ensures.is c.behind_word.ensures.is;
      moved = moves _ _ _ _ _ _ (c.tag_row-q.ensures.kept ∙ c.enter-r.ensures.kept) (omega arith) h.3 c.behind_word.ensures.moved;
      indexed = rw (c.behind_word.ensures.counted ∙ c.tag_row-q.ensures.counted) c.enter-r.ensures.indexed;
    }

pub returns-in-Err : goal.returns-in-Err
returns-in-Err c =
    record {
      is = token_none _ _ _ _ _ _ _ c.parse_token.ensures.value _ c.in-Err.is;
      moved = refused_put _ _ _ c.requires.0.within;
      indexed = c.requires.1;
    }
