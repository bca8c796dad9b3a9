-- `settings::start_decl`: spacing, a name that is given, spacing.
use Rattle.grammar.proofs.Steps.{gap_passed, passed_on, passed_here, passed_fits, onward_passed, still}
use Rattle.settings.proofs.Laws.{name_passed, name_none, start_refused, start_unnamed, start_named_lem}
use Rattle.settings.proofs.start_decl.Goals as goal

pub parse_name-requires : goal.parse_name-requires
parse_name-requires c = ((gap_passed _ _ _ _ _ c.pass_gap.ensures.moved c.in-Ok.is)).inside

pub overflow_cast-i : goal.overflow_cast-i
overflow_cast-i c = passed_fits _ _ _ c.requires ((gap_passed _ _ _ _ _ c.pass_gap.ensures.moved c.in-Ok.is))

pub overflow_cast-j : goal.overflow_cast-j
overflow_cast-j c =
    passed_fits _ _ _ c.requires ((passed_on _ _ _ _ ((gap_passed _ _ _ _ _ c.pass_gap.ensures.moved c.in-Ok.is)) (name_passed _ _ _ _ c.parse_name.ensures.named c.in-Ok-parse_name.is)))

pub pass_on-requires : goal.pass_on-requires
pass_on-requires c =
    passed_here _ _ _ c.requires ((passed_on _ _ _ _ ((gap_passed _ _ _ _ _ c.pass_gap.ensures.moved c.in-Ok.is)) (name_passed _ _ _ _ c.parse_name.ensures.named c.in-Ok-parse_name.is)))

pub overflow_cast-result : goal.overflow_cast-result
overflow_cast-result c =
    rw (name_none _ _ _ _ c.parse_name.ensures.named c.in-Err-parse_name.is) (passed_fits _ _ _ c.requires ((gap_passed _ _ _ _ _ c.pass_gap.ensures.moved c.in-Ok.is)))

pub returns-in-Ok-parse_name : goal.returns-in-Ok-parse_name
returns-in-Ok-parse_name c =
    record {
      is = start_named_lem _ _ _ _ c.pass_gap.ensures.is _ _ c.in-Ok.is _ _ _ _ _ _ c.parse_name.ensures.value c.in-Ok-parse_name.is c.start_named-r.ensures.is c.pass_on.ensures.is;
      moved = onward_passed _ _ _ _ _ _ c.pass_on.ensures.moved c.start_named-r.ensures.kept ((passed_on _ _ _ _ ((gap_passed _ _ _ _ _ c.pass_gap.ensures.moved c.in-Ok.is)) (name_passed _ _ _ _ c.parse_name.ensures.named c.in-Ok-parse_name.is)));
    }

pub returns-in-Err-parse_name : goal.returns-in-Err-parse_name
returns-in-Err-parse_name c =
    record {
      is = start_unnamed _ _ _ _ c.pass_gap.ensures.is _ _ c.in-Ok.is _ _ c.parse_name.ensures.value c.in-Err-parse_name.is;
      moved = still _ _ c.requires;
    }

pub returns-in-Err : goal.returns-in-Err
returns-in-Err c =
    record {
      is = start_refused _ _ _ _ c.pass_gap.ensures.is _ c.in-Err.is;
      moved = still _ _ c.requires;
    }
