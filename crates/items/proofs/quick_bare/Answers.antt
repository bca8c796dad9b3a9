-- `items::quick_bare`.
use mathlib.Core.Path.{refl}
use Rattle.grammar.proofs.Steps.{passed_here, passed_fits}
use Rattle.items.proofs.Symbols.{from_passed, to_passed, end_passed}
use Rattle.items.proofs.Runs.{unadded, bare_reads}
use Rattle.items.proofs.quick_bare.Goals as goal

pub pass_gap-requires : goal.pass_gap-requires
pass_gap-requires c = passed_here _ _ _ c.requires.0 (end_passed _ _ _ c.parse_token.ensures.tokened _ _ _ c.in-Ok.is)

-- the cast of a part of the word fits, the word being where `parse_token` found it
pub overflow_cast-from : goal.overflow_cast-from
overflow_cast-from c = passed_fits _ _ _ c.requires.0 (from_passed _ _ _ c.parse_token.ensures.tokened _ _ _ c.in-Ok.is)

pub overflow_cast-to : goal.overflow_cast-to
overflow_cast-to c = passed_fits _ _ _ c.requires.0 (to_passed _ _ _ c.parse_token.ensures.tokened _ _ _ c.in-Ok.is)

pub symbol_kind-which-requires : goal.symbol_kind-which-requires
symbol_kind-which-requires c = c.requires.1

pub overflow_cast-result : goal.overflow_cast-result
overflow_cast-result c = passed_fits _ _ _ c.requires.0 (end_passed _ _ _ c.parse_token.ensures.tokened _ _ _ c.in-Ok.is)

pub returns-then-add_row : goal.returns-then-add_row
returns-then-add_row c =
    record {
      is = bare_reads _ _ _ _ _ _ _ _ c.parse_token.ensures.value _ _ _ c.in-Ok.is _ c.pass_gap.ensures.is _ _ c.in-Ok-pass_gap.is c.parse_token.ensures.tokened c.pass_gap.ensures.moved c.requires.2 _ c.symbol_kind-which.ensures _ _ c.add_row.ensures c.if-add_row.true;
      indexed = c.requires.1;
    }

pub returns-else-add_row : goal.returns-else-add_row
returns-else-add_row c =
    record {
      is = (refl, unadded _ _ _ _ _ c.add_row.ensures c.if-add_row.false);
      indexed = c.requires.1;
    }

pub returns-in-Err-pass_gap : goal.returns-in-Err-pass_gap
returns-in-Err-pass_gap c =
    record {
      is = (refl, refl);
      indexed = c.requires.1;
    }

pub returns-in-Err : goal.returns-in-Err
returns-in-Err c =
    record {
      is = (refl, refl);
      indexed = c.requires.1;
    }
