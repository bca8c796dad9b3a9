-- `lines::prec_body`: the tag, then the tokens.
use native.Mathlib.Omega.{arith}
use Rattle.finder.proofs.Laws.{grown_none}
use Rattle.lines.proofs.Laws.{body_goes, body_done, body_refused}
use Rattle.lines.proofs.prec_body.Goals as goal

pub prec_list-requires : goal.prec_list-requires
prec_list-requires c =
    (record { within = c.lead_tag-l.ensures.moved.inside c.requires.0.within; short = c.requires.0.short }, rw c.lead_tag-l.ensures.counted c.requires.1)

pub returns-in-Going : goal.returns-in-Going
returns-in-Going c =
    let a = c.lead_tag-l.ensures.moved.forth (omega arith) in
    let b = c.prec_list.ensures.moved.onward in
    record {
      is = body_goes _ _ _ _ _ _ _ _ _ _ _ c.lead_tag-l.ensures.is _ c.in-Going.is c.prec_list.ensures.is;
      moved = record { onward = omega arith; inside = c.prec_list.ensures.moved.inside };
      indexed = c.prec_list.ensures.indexed;
    }

pub returns-in-Done : goal.returns-in-Done
returns-in-Done c =
    record {
      is = body_done _ _ _ _ _ _ _ _ _ _ _ c.lead_tag-l.ensures.is c.in-Done.is;
      moved = record { onward = c.lead_tag-l.ensures.moved.forth (omega arith); inside = c.lead_tag-l.ensures.moved.inside c.requires.0.within };
      indexed = (rw c.lead_tag-l.ensures.counted c.requires.1, grown_none _);
    }

pub returns-in-Refused : goal.returns-in-Refused
returns-in-Refused c =
    record {
      is = body_refused _ _ _ _ _ _ _ _ _ _ _ c.lead_tag-l.ensures.is _ c.in-Refused.is;
      moved = record { onward = c.lead_tag-l.ensures.moved.forth (omega arith); inside = c.lead_tag-l.ensures.moved.inside c.requires.0.within };
      indexed = (rw c.lead_tag-l.ensures.counted c.requires.1, grown_none _);
    }
