-- `settings::param_typed`: spacing, the type to the line end, spacing.
use Rattle.grammar.proofs.Steps.{gap_passed, passed_on, passed_here, passed_fits, onward_from, refused_stays}
use Rattle.settings.proofs.Laws.{line_passed, typed_refused, typed_given}
use Rattle.settings.proofs.param_typed.Goals as goal

pub parse_to_eol-j-requires : goal.parse_to_eol-j-requires
parse_to_eol-j-requires c = ((gap_passed _ _ _ _ _ c.pass_gap.ensures.moved c.in-Ok.is)).inside

pub overflow_cast-i : goal.overflow_cast-i
overflow_cast-i c = passed_fits _ _ _ c.requires ((gap_passed _ _ _ _ _ c.pass_gap.ensures.moved c.in-Ok.is))

pub overflow_cast-j : goal.overflow_cast-j
overflow_cast-j c =
    passed_fits _ _ _ c.requires ((passed_on _ _ _ _ ((gap_passed _ _ _ _ _ c.pass_gap.ensures.moved c.in-Ok.is)) (line_passed _ _ _ c.parse_to_eol-j.ensures.lined)))

pub past_gap-requires : goal.past_gap-requires
past_gap-requires c =
    passed_here _ _ _ c.requires ((passed_on _ _ _ _ ((gap_passed _ _ _ _ _ c.pass_gap.ensures.moved c.in-Ok.is)) (line_passed _ _ _ c.parse_to_eol-j.ensures.lined)))

pub returns-in-Ok : goal.returns-in-Ok
returns-in-Ok c =
    record {
      is = typed_given _ _ _ _ c.pass_gap.ensures.is _ _ _ _ _ _ _ c.in-Ok.is c.parse_to_eol-j.ensures.value c.with_param-next.ensures c.past_gap.ensures.is;
      moved = onward_from _ _ _ _ _ _ c.past_gap.ensures.moved ((passed_on _ _ _ _ ((gap_passed _ _ _ _ _ c.pass_gap.ensures.moved c.in-Ok.is)) (line_passed _ _ _ c.parse_to_eol-j.ensures.lined)));
    }

pub returns-in-Err : goal.returns-in-Err
returns-in-Err c =
    record {
      is = typed_refused _ _ _ _ c.pass_gap.ensures.is _ _ _ c.in-Err.is;
      moved = refused_stays _ _ _ _;
    }
