-- `items::prec_item`.
use Rattle.grammar.proofs.Steps.{gap_passed, passed_on, passed_here, still}
use Rattle.items.proofs.Symbols.{prec_spaced, prec_gap_lem}
use Rattle.items.proofs.prec_item.Goals as goal

pub prec_name-requires : goal.prec_name-requires
prec_name-requires c = (passed_here _ _ _ c.requires.0 (gap_passed _ _ _ _ _ c.pass_gap.ensures.moved c.in-Ok.is), c.requires.1)

pub returns-in-Ok : goal.returns-in-Ok
returns-in-Ok c =
    let e = c.in-Ok.is in
    record {
      is = prec_spaced _ _ _ _ _ c.pass_gap.ensures.is _ _ _ e c.prec_name.ensures.is;
      moved = passed_on _ _ _ _ (gap_passed _ _ _ _ _ c.pass_gap.ensures.moved e) c.prec_name.ensures.moved;
      indexed = c.prec_name.ensures.indexed;
    }

pub returns-in-Err : goal.returns-in-Err
returns-in-Err c =
    record {
      is = prec_gap_lem _ _ _ _ _ c.pass_gap.ensures.is _ c.in-Err.is;
      moved = still _ _ c.requires.0;
      indexed = c.requires.1;
    }
