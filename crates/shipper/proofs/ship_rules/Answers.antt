-- `shipper::ship_rules`: pieces as long as they move on.
use mathlib.Core.Path.{refl, ◌∙◌}
use native.Mathlib.Omega.{arith}
use Rattle.shipper.specs.Ship.{ship_rules}
use Rattle.shipper.proofs.Laws.{sofar_start, sofar_done, sofar_stays, sofar_moves, rules_end, rules_mark, rules_turn_lem}
use Rattle.shipper.proofs.ship_rules.Goals as goal

pub loop-i-init : goal.loop-i-init
loop-i-init c = (refl, omega arith, c.requires.within, sofar_start _ _ _ _ _ _ (omega arith))

pub shape_of-out-then-src-i : goal.shape_of-out-then-src-i
shape_of-out-then-src-i c = c.loop-i.invariant.0

pub returns-then-src-i : goal.returns-then-src-i
unfolding ship_rules
returns-then-src-i c =
    record {
      is = sofar_done _ _ _ _ _ _ _ _ _ c.loop-i.invariant.3 (rules_end _ _ _ c.if-src-i.true);
      moved = record { onward = c.loop-i.invariant.1; inside = c.loop-i.invariant.2 };
    }

pub shape_of-out-then-starts : goal.shape_of-out-then-starts
shape_of-out-then-starts c = c.loop-i.invariant.0

pub returns-then-starts : goal.returns-then-starts
unfolding ship_rules
returns-then-starts c =
    record {
      is = sofar_done _ _ _ _ _ _ _ _ _ c.loop-i.invariant.3 (rules_mark _ _ _ c.if-src-i.false _ c.starts.ensures c.if-starts.true);
      moved = record { onward = c.loop-i.invariant.1; inside = c.loop-i.invariant.2 };
    }

pub ship_rule-r-requires : goal.ship_rule-r-requires
ship_rule-r-requires c = record { within = c.loop-i.invariant.2; short = c.requires.short }

pub shape_of-out-then-r-i : goal.shape_of-out-then-r-i
shape_of-out-then-r-i c = c.ship_rule-r.auto.out ∙ c.loop-i.invariant.0

pub returns-then-r-i : goal.returns-then-r-i
unfolding ship_rules
returns-then-r-i c =
    let a = c.ship_rule-r.ensures.moved.onward in
    let i = c.loop-i.invariant.1 in
    record {
      is = sofar_stays _ _ _ _ _ _ _ _ _ c.loop-i.invariant.3 _ (rules_turn_lem _ _ _ c.if-src-i.false _ c.starts.ensures c.if-starts.false) _ _ _ c.ship_rule-r.ensures.is c.if-r-i.true;
      moved = record { onward = omega arith; inside = c.ship_rule-r.ensures.moved.inside };
    }

pub loop-i-smaller : goal.loop-i-smaller
loop-i-smaller c =
    let r = c.ship_rule-r.ensures.moved in
    let a = r.onward in
    let b = r.inside in
    let h = c.if-r-i.false in
    omega arith

pub loop-i-preserved : goal.loop-i-preserved
loop-i-preserved c =
    let b = c.ship_rule-r.ensures.moved.inside in
    let h = c.if-r-i.false in
    let i = c.loop-i.invariant.1 in (
      c.ship_rule-r.auto.out ∙ c.loop-i.invariant.0,
      omega arith,
      b,
      sofar_moves _ _ _ _ _ _ _ _ _ c.loop-i.invariant.3 _ (rules_turn_lem _ _ _ c.if-src-i.false _ c.starts.ensures c.if-starts.false) _ _ _ c.ship_rule-r.ensures.is h _ (omega arith),
    )
