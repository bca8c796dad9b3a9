-- `settings::actiontype_decl`: spacing, a text that is given, spacing.
use Rattle.grammar.proofs.Steps.{gap_passed, passed_on, passed_here, passed_fits, onward_passed, still}
use Rattle.settings.proofs.Laws.{line_passed, actiontype_refused, actiontype_given_lem}
use Rattle.settings.proofs.actiontype_decl.Goals as goal

pub parse_to_eol-j-requires : goal.parse_to_eol-j-requires
parse_to_eol-j-requires c = ((gap_passed _ _ _ _ _ c.pass_gap.ensures.moved c.in-Ok.is)).inside

pub overflow_cast-i : goal.overflow_cast-i
overflow_cast-i c = passed_fits _ _ _ c.requires ((gap_passed _ _ _ _ _ c.pass_gap.ensures.moved c.in-Ok.is))

pub overflow_cast-j : goal.overflow_cast-j
overflow_cast-j c =
    passed_fits _ _ _ c.requires ((passed_on _ _ _ _ ((gap_passed _ _ _ _ _ c.pass_gap.ensures.moved c.in-Ok.is)) (line_passed _ _ _ c.parse_to_eol-j.ensures.lined)))

pub pass_on-requires : goal.pass_on-requires
pass_on-requires c =
    passed_here _ _ _ c.requires ((passed_on _ _ _ _ ((gap_passed _ _ _ _ _ c.pass_gap.ensures.moved c.in-Ok.is)) (line_passed _ _ _ c.parse_to_eol-j.ensures.lined)))

pub returns-in-Ok : goal.returns-in-Ok
returns-in-Ok c =
    record {
      is = actiontype_given_lem _ _ _ _ c.pass_gap.ensures.is _ _ c.in-Ok.is _ _ _ _ _ c.parse_to_eol-j.ensures.value c.actiontype_named-r.ensures.is c.pass_on.ensures.is;
      moved = onward_passed _ _ _ _ _ _ c.pass_on.ensures.moved c.actiontype_named-r.ensures.kept ((passed_on _ _ _ _ ((gap_passed _ _ _ _ _ c.pass_gap.ensures.moved c.in-Ok.is)) (line_passed _ _ _ c.parse_to_eol-j.ensures.lined)));
    }

pub returns-in-Err : goal.returns-in-Err
returns-in-Err c =
    record {
      is = actiontype_refused _ _ _ _ c.pass_gap.ensures.is _ c.in-Err.is;
      moved = still _ _ c.requires;
    }
