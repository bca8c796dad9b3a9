-- `lines::avoid_item`.
use mathlib.Core.Path.{refl}
use native.Mathlib.Omega.{arith}
use Rattle.scan.proofs.Bytes.{told}
use Rattle.words.specs.Words.{Tokened}
use Rattle.finder.proofs.Laws.{grown_none}
use Rattle.grammar.proofs.Steps.{refused_put}
use Rattle.lines.proofs.Laws.{item_moves, avoid_found_lem, avoid_none}
use Rattle.lines.proofs.avoid_item.Goals as goal

pub overflow_cast-p : goal.overflow_cast-p
overflow_cast-p c =
    let h = told (Tokened _ _) c.in-Ok.is c.parse_token.ensures.tokened in
    omega (arith, h.1, h.2, h.3, c.requires.0.short)

pub overflow_cast-p-in-Ok : goal.overflow_cast-p-in-Ok
overflow_cast-p-in-Ok c =
    let h = told (Tokened _ _) c.in-Ok.is c.parse_token.ensures.tokened in
    omega (arith, h.2, h.3, c.requires.0.short)

pub avoid_named-requires : goal.avoid_named-requires
avoid_named-requires c =
    let h = told (Tokened _ _) c.in-Ok.is c.parse_token.ensures.tokened in
    (record { within = h.3; short = c.requires.0.short }, c.requires.1, c.requires.2, c.requires.3, c.requires.4)

pub overflow_cast-result : goal.overflow_cast-result
overflow_cast-result c =
    let h = told (Tokened _ _) c.in-Err.is c.parse_token.ensures.tokened in
    let x = c.requires.0 in
    omega (arith, h, x.short, x.within)

pub returns-in-Ok : goal.returns-in-Ok
returns-in-Ok c =
    let e = c.in-Ok.is in
    record {
      is = avoid_found_lem _ _ _ _ _ _ _ _ c.parse_token.ensures.value _ _ _ _ e c.avoid_named.ensures.is;
      moved = item_moves _ _ _ _ _ _ _ _ _ c.parse_token.ensures.tokened e refl c.avoid_named.ensures.moved;
      indexed = c.avoid_named.ensures.indexed;
    }

pub returns-in-Err : goal.returns-in-Err
returns-in-Err c =
    record {
      is = avoid_none _ _ _ _ _ _ _ _ c.parse_token.ensures.value _ c.in-Err.is;
      moved = refused_put _ _ _ c.requires.0.within;
      indexed = (c.requires.1, (c.requires.4, grown_none _));
    }
