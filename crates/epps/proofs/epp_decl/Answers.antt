-- `epps::epp_decl`: spacing without line ends, the key, and what stands behind it.
use native.Mathlib.Omega.{arith}
use Rattle.scan.proofs.Bytes.{told}
use Rattle.words.specs.Words.{Tokened}
use Rattle.finder.proofs.Laws.{grown_none}
use Rattle.grammar.specs.State.{Gapped}
use Rattle.epps.proofs.Laws.{decl_key, decl_none, decl_refused}
use Rattle.epps.proofs.epp_decl.Goals as goal

pub parse_token-requires : goal.parse_token-requires
parse_token-requires c = (told (Gapped _ _) c.in-Ok.is c.pass_gap.ensures.moved).1

pub overflow_cast-i : goal.overflow_cast-i
overflow_cast-i c =
    let h = (told (Gapped _ _) c.in-Ok.is c.pass_gap.ensures.moved).1 in
    omega (arith, c.requires.0.short)

pub overflow_cast-p : goal.overflow_cast-p
overflow_cast-p c =
    let h = told (Tokened _ _) c.in-Ok-parse_token.is c.parse_token.ensures.tokened in
    omega (arith, c.requires.0.short)

pub overflow_cast-p-in-Ok-parse_token : goal.overflow_cast-p-in-Ok-parse_token
overflow_cast-p-in-Ok-parse_token c =
    let h = told (Tokened _ _) c.in-Ok-parse_token.is c.parse_token.ensures.tokened in
    omega (arith, c.requires.0.short)

pub epp_value-requires : goal.epp_value-requires
epp_value-requires c =
    (record { within = (told (Tokened _ _) c.in-Ok-parse_token.is c.parse_token.ensures.tokened).3; short = c.requires.0.short }, c.requires.1)

pub overflow_cast-result : goal.overflow_cast-result
overflow_cast-result c =
    let e = told (Tokened _ _) c.in-Err-parse_token.is c.parse_token.ensures.tokened in
    let h = (told (Gapped _ _) c.in-Ok.is c.pass_gap.ensures.moved).1 in
    omega (arith, c.requires.0.short)

pub returns-in-Ok-parse_token : goal.returns-in-Ok-parse_token
returns-in-Ok-parse_token c =
    let m = (told (Gapped _ _) c.in-Ok.is c.pass_gap.ensures.moved).0 in
    let h = told (Tokened _ _) c.in-Ok-parse_token.is c.parse_token.ensures.tokened in
    let o = c.epp_value.ensures.moved in
    record {
      is = decl_key _ _ _ _ _ c.pass_gap.ensures.is _ _ c.in-Ok.is _ c.parse_token.ensures.value _ _ _ _ c.in-Ok-parse_token.is c.epp_value.ensures.is;
      moved = record { onward = o.forth (omega arith); inside = o.inside c.requires.0.within };
      indexed = c.epp_value.ensures.indexed;
    }

pub returns-in-Err-parse_token : goal.returns-in-Err-parse_token
returns-in-Err-parse_token c =
    record {
      is = decl_none _ _ _ _ _ c.pass_gap.ensures.is _ _ c.in-Ok.is _ c.parse_token.ensures.value _ c.in-Err-parse_token.is;
      moved = record { onward = omega arith; inside = c.requires.0.within };
      indexed = (c.requires.1, grown_none _);
    }

pub returns-in-Err : goal.returns-in-Err
returns-in-Err c =
    record {
      is = decl_refused _ _ _ _ _ c.pass_gap.ensures.is _ c.in-Err.is;
      moved = record { onward = omega arith; inside = c.requires.0.within };
      indexed = (c.requires.1, grown_none _);
    }
