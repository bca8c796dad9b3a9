-- `lines::prec_item`.
use mathlib.Core.Path.{refl, ◌∙◌}
use native.Mathlib.Omega.{arith}
use Rattle.scan.proofs.Bytes.{told}
use Rattle.words.specs.Words.{Tokened}
use Rattle.finder.proofs.Laws.{grown_none}
use Rattle.grammar.proofs.Steps.{refused_put}
use Rattle.lines.proofs.Laws.{item_moves, prec_found_lem, prec_none}
use Rattle.lines.proofs.prec_item.Goals as goal

pub overflow_cast-from : goal.overflow_cast-from
overflow_cast-from c =
    let h = told (Tokened _ _) c.in-Ok.is c.parse_token.ensures.tokened in
    omega (arith, h.1, h.2, h.3, c.requires.0.short)

pub overflow_cast-to : goal.overflow_cast-to
overflow_cast-to c =
    let h = told (Tokened _ _) c.in-Ok.is c.parse_token.ensures.tokened in
    omega (arith, h.2, h.3, c.requires.0.short)

pub once-r-requires : goal.once-r-requires
once-r-requires c = (record { table = omega arith; wide = refl; named = omega arith }, c.requires.1)

pub behind_word-requires : goal.behind_word-requires
behind_word-requires c =
    let h = told (Tokened _ _) c.in-Ok.is c.parse_token.ensures.tokened in
    record { within = h.3; short = c.requires.0.short }

pub overflow_cast-result : goal.overflow_cast-result
overflow_cast-result c =
    let h = told (Tokened _ _) c.in-Err.is c.parse_token.ensures.tokened in
    let x = c.requires.0 in
    omega (arith, h, x.short, x.within)

pub returns-in-Ok : goal.returns-in-Ok
returns-in-Ok c =
    let e = c.in-Ok.is in
    record {
      is = prec_found_lem _ _ _ _ _ _ _ _ _ _ c.parse_token.ensures.value _ _ _ _ _ _ _ _ _ _ e c.once-r.ensures.is c.tag_row-q.ensures.is c.behind_word.ensures.is;
      moved = item_moves _ _ _ _ _ _ _ _ _ c.parse_token.ensures.tokened e (c.tag_row-q.ensures.kept ∙ c.once-r.ensures.kept) c.behind_word.ensures.moved;
      indexed = (rw (c.behind_word.ensures.counted ∙ c.tag_row-q.ensures.counted) c.once-r.ensures.indexed.0, c.once-r.ensures.indexed.1);
    }

pub returns-in-Err : goal.returns-in-Err
returns-in-Err c =
    record {
      is = prec_none _ _ _ _ _ _ _ _ _ _ c.parse_token.ensures.value _ c.in-Err.is;
      moved = refused_put _ _ _ c.requires.0.within;
      indexed = (c.requires.1, grown_none _);
    }
