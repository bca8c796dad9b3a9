-- `items::quick_quoted`: table 9 has room, so that its row is added.
use mathlib.Core.Path.{refl, sym, ◌∙◌}
use borrow.Author.Tests.{not-false}
use Rattle.grammar.proofs.Steps.{passed_here, passed_fits}
use Rattle.items.proofs.Symbols.{from_passed, to_passed, end_passed}
use Rattle.items.proofs.Runs.{added_in, unentered, quoted_reads, entered_held, unentered_held}
use Rattle.items.proofs.quick_quoted.Goals as goal

pub returns-then-not-symbol_room : goal.returns-then-not-symbol_room
returns-then-not-symbol_room c =
    record {
      is = (refl, refl);
      indexed = c.requires.1;
    }

pub pass_gap-requires : goal.pass_gap-requires
pass_gap-requires c = passed_here _ _ _ c.requires.0 (end_passed _ _ _ c.parse_token.ensures.tokened _ _ _ c.in-Ok.is)

-- the cast of a part of the word fits, the word being where `parse_token` found it
pub overflow_cast-from : goal.overflow_cast-from
overflow_cast-from c = passed_fits _ _ _ c.requires.0 (from_passed _ _ _ c.parse_token.ensures.tokened _ _ _ c.in-Ok.is)

pub overflow_cast-to : goal.overflow_cast-to
overflow_cast-to c = passed_fits _ _ _ c.requires.0 (to_passed _ _ _ c.parse_token.ensures.tokened _ _ _ c.in-Ok.is)

pub enter_token-requires : goal.enter_token-requires
enter_token-requires c = c.requires.1

pub overflow_cast-result : goal.overflow_cast-result
overflow_cast-result c = passed_fits _ _ _ c.requires.0 (end_passed _ _ _ c.parse_token.ensures.tokened _ _ _ c.in-Ok.is)

pub returns-in-Some : goal.returns-in-Some
returns-in-Some c =
    record {
      is = quoted_reads _ _ _ _ _ _ _ _ c.parse_token.ensures.value _ _ _ c.in-Ok.is _ c.pass_gap.ensures.is _ _ c.in-Ok-pass_gap.is c.parse_token.ensures.tokened c.pass_gap.ensures.moved c.requires.2 _ _ c.enter_token.ensures.is _ c.in-Some.is _ _ c.add_row.ensures (added_in _ _ _ _ _ c.add_row.ensures (sym c.symbol_room.ensures ∙ not-false _ c.if-not-symbol_room.false-raw));
      indexed = entered_held _ _ _ _ _ _ c.in-Some.is c.enter_token.ensures.held.0;
    }

pub returns-in-None : goal.returns-in-None
returns-in-None c =
    record {
      is = (unentered _ _ _ _ _ _ _ c.enter_token.ensures.is c.in-None.is, refl);
      indexed = unentered_held _ _ _ _ _ c.in-None.is c.enter_token.ensures.held.0;
    }

pub returns-in-Err-pass_gap : goal.returns-in-Err-pass_gap
returns-in-Err-pass_gap c =
    record {
      is = (refl, refl);
      indexed = c.requires.1;
    }

pub returns-in-Err : goal.returns-in-Err
returns-in-Err c =
    record {
      is = (refl, refl);
      indexed = c.requires.1;
    }
