-- `lines::prec_list`: the loop's turns are those of its definition.
use mathlib.Core.Path.{refl, sym, ◌∙◌}
use native.Mathlib.Omega.{arith}
use Rattle.scan.proofs.Loop.{left_start, left_more, left_stop}
use Rattle.finder.proofs.Laws.{grown_none, grown_on}
use Rattle.lines.specs.Precedences.{prec_turn, prec_list}
use Rattle.lines.proofs.Laws.{prec_end, prec_more, prec_done, prec_refused}
use Rattle.lines.proofs.prec_list.Goals as goal

pub loop-tag-init : goal.loop-tag-init
loop-tag-init c = (refl, refl, refl, refl, refl, c.requires.1, grown_none _, omega arith, c.requires.0.within, left_start _ _ _ _ (omega arith))

pub returns-then-src-at : goal.returns-then-src-at
unfolding prec_list
returns-then-src-at c =
    record {
      is = sym (left_stop (prec_turn _ _ _ _) _ c.loop-tag.invariant.9 (prec_end _ _ _ _ c.loop-tag.st c.loop-tag.t2 c.loop-tag.t10 c.loop-tag.t15 c.loop-tag.t16 c.if-src-at.true));
      moved = record { onward = c.loop-tag.invariant.7; inside = c.loop-tag.invariant.8 };
      indexed = (c.loop-tag.invariant.5, c.loop-tag.invariant.6);
    }

pub prec_item-r-requires : goal.prec_item-r-requires
prec_item-r-requires c = (record { within = c.loop-tag.invariant.8; short = c.requires.0.short }, c.loop-tag.invariant.5)

pub loop-tag-smaller : goal.loop-tag-smaller
loop-tag-smaller c =
    let m = c.prec_item-r.ensures.moved in
    let f = m.beyond c.in-Going.is in
    omega (arith, f, m.inside)

pub loop-tag-preserved : goal.loop-tag-preserved
loop-tag-preserved c =
    let m = c.prec_item-r.ensures.moved in
    let f = m.beyond c.in-Going.is in (
      c.prec_item-r.auto.t2 ∙ c.loop-tag.invariant.0,
      c.prec_item-r.auto.t10 ∙ c.loop-tag.invariant.1,
      c.prec_item-r.auto.t15 ∙ c.loop-tag.invariant.2,
      c.prec_item-r.auto.t16 ∙ c.loop-tag.invariant.3,
      c.prec_item-r.auto.fx ∙ c.loop-tag.invariant.4,
      c.prec_item-r.ensures.indexed.0,
      grown_on _ _ _ c.loop-tag.invariant.6 c.prec_item-r.ensures.indexed.1,
      omega (arith, c.loop-tag.invariant.7, f),
      m.inside,
      left_more (prec_turn _ _ _ _) _ c.loop-tag.invariant.9 _ (prec_more _ _ _ _ c.loop-tag.st c.loop-tag.t2 c.loop-tag.t10 c.loop-tag.t15 c.loop-tag.t16 c.if-src-at.false c.prec_item-r.ensures.is c.in-Going.is) (omega (arith, f, m.inside)),
    )

pub returns-in-Done : goal.returns-in-Done
unfolding prec_list
returns-in-Done c =
    let m = c.prec_item-r.ensures.moved in
    record {
      is = sym (left_stop (prec_turn _ _ _ _) _ c.loop-tag.invariant.9 (prec_done _ _ _ _ c.loop-tag.st c.loop-tag.t2 c.loop-tag.t10 c.loop-tag.t15 c.loop-tag.t16 c.if-src-at.false c.prec_item-r.ensures.is c.in-Done.is));
      moved = record { onward = omega (arith, c.loop-tag.invariant.7, m.onward); inside = m.inside };
      indexed = (c.prec_item-r.ensures.indexed.0, grown_on _ _ _ c.loop-tag.invariant.6 c.prec_item-r.ensures.indexed.1);
    }

pub returns-in-Refused : goal.returns-in-Refused
unfolding prec_list
returns-in-Refused c =
    let m = c.prec_item-r.ensures.moved in
    record {
      is = sym (left_stop (prec_turn _ _ _ _) _ c.loop-tag.invariant.9 (prec_refused _ _ _ _ c.loop-tag.st c.loop-tag.t2 c.loop-tag.t10 c.loop-tag.t15 c.loop-tag.t16 c.if-src-at.false c.prec_item-r.ensures.is _ c.in-Refused.is));
      moved = record { onward = omega (arith, c.loop-tag.invariant.7, m.onward); inside = m.inside };
      indexed = (c.prec_item-r.ensures.indexed.0, grown_on _ _ _ c.loop-tag.invariant.6 c.prec_item-r.ensures.indexed.1);
    }
