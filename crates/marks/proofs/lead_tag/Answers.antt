-- `marks::lead_tag`.
use mathlib.Core.Path.{◌∙◌, ap, refl}
use native.Mathlib.Omega.{arith}
use Rattle.scan.proofs.Tuples.{err_is}
use Rattle.grammar.proofs.Steps.{nearer}
use Rattle.marks.specs.Marks.{Leading}
use Rattle.marks.proofs.Laws.{lead_none, lead_found, lead_open, lead_wanted, lead_without, tag_placed, open_placed, none_placed, lead_counts, standing}
use Rattle.marks.proofs.lead_tag.Goals as goal

pub returns-then-s-ne4 : goal.returns-then-s-ne4
returns-then-s-ne4 c =
    record {
      is = lead_none _ _ _ _ c.if-s-ne4.true;
      moved = standing _ _ _;
      counted = refl;
    }

-- a tag ends in the source
pub past_gap-q-requires : goal.past_gap-q-requires
past_gap-q-requires c =
    let x = tag_placed _ _ _ c.parse_tag.ensures.tagged _ _ c.in-Ok.is in
    record { within = x.3; short = c.requires.short }

pub overflow_cast-result : goal.overflow_cast-result
overflow_cast-result c =
    let x = tag_placed _ _ _ c.parse_tag.ensures.tagged _ _ c.in-Ok.is in
    let h = c.requires.short in
    omega (arith, x.1, x.2, x.3)

pub overflow_cast-result-in-Ok : goal.overflow_cast-result-in-Ok
overflow_cast-result-in-Ok c =
    let x = tag_placed _ _ _ c.parse_tag.ensures.tagged _ _ c.in-Ok.is in
    let h = c.requires.short in
    omega (arith, x.1, x.2, x.3)

pub overflow_cast-result-in-Err-OpenTag : goal.overflow_cast-result-in-Err-OpenTag
overflow_cast-result-in-Err-OpenTag c =
    let x = open_placed _ _ _ c.parse_tag.ensures.tagged _ (err_is c.in-Err-OpenTag.is c.in-Err-OpenTag.field-0-is) in
    omega (arith, x, c.requires.within, c.requires.short)

pub overflow_cast-result-then-wanted : goal.overflow_cast-result-then-wanted
overflow_cast-result-then-wanted c =
    let x = none_placed _ _ _ c.parse_tag.ensures.tagged _ (err_is c.in-Err-NoTag.is c.in-Err-NoTag.field-0-is) in
    omega (arith, x, c.requires.within, c.requires.short)

pub returns-then-wanted : goal.returns-then-wanted
returns-then-wanted c =
    record {
      is = lead_wanted _ _ _ _ c.if-s-ne4.false _ c.parse_tag.ensures.value _ (err_is c.in-Err-NoTag.is c.in-Err-NoTag.field-0-is) c.if-wanted.true;
      moved = standing _ _ _;
      counted = refl;
    }

pub returns-in-Ok : goal.returns-in-Ok
returns-in-Ok c =
    let x = tag_placed _ _ _ c.parse_tag.ensures.tagged _ _ c.in-Ok.is in
    let e = lead_found _ _ _ _ c.if-s-ne4.false _ c.parse_tag.ensures.value _ _ _ _ c.in-Ok.is c.past_gap-q.ensures.is in
    record {
      is = e;
      moved = nearer _ _ _ _ _ _ (omega (arith, x.0, x.1, x.2)) c.past_gap-q.ensures.moved;
      counted = ap (λ (o : Leading). o.state.counts) e ∙ lead_counts _ _ _ _;
    }

pub returns-in-Err-OpenTag : goal.returns-in-Err-OpenTag
returns-in-Err-OpenTag c =
    record {
      is = lead_open _ _ _ _ c.if-s-ne4.false _ c.parse_tag.ensures.value _ (err_is c.in-Err-OpenTag.is c.in-Err-OpenTag.field-0-is);
      moved = standing _ _ _;
      counted = refl;
    }

pub returns-else-wanted : goal.returns-else-wanted
returns-else-wanted c =
    record {
      is = lead_without _ _ _ _ c.if-s-ne4.false _ c.parse_tag.ensures.value _ (err_is c.in-Err-NoTag.is c.in-Err-NoTag.field-0-is) c.if-wanted.false;
      moved = standing _ _ _;
      counted = refl;
    }
