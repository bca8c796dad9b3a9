-- `shipper::ship_words`: the loop's turns are those of its definition.
use mathlib.Core.Path.{refl, ◌∙◌}
use native.Mathlib.Omega.{arith}
use Rattle.shipper.specs.Ship.{ship_words, spaced}
use Rattle.shipper.proofs.Laws.{sofar_start, sofar_done, sofar_on, words_end, words_none, words_on, wrote_at}
use Rattle.shipper.proofs.ship_words.Goals as goal

pub loop-what-init : goal.loop-what-init
loop-what-init c = (refl, omega arith, c.requires.within, sofar_start _ _ _ _ _ _ (omega arith))

pub shape_of-out-then-list_ends : goal.shape_of-out-then-list_ends
shape_of-out-then-list_ends c = c.loop-what.invariant.0

pub returns-then-list_ends : goal.returns-then-list_ends
unfolding ship_words
returns-then-list_ends c =
    record {
      is = sofar_done _ _ _ _ _ _ _ _ _ c.loop-what.invariant.3 (words_end _ _ _ _ _ c.list_ends.ensures c.if-list_ends.true);
      moved = record { onward = c.loop-what.invariant.1; inside = c.loop-what.invariant.2 };
    }

pub piece_end-e-requires : goal.piece_end-e-requires
piece_end-e-requires c = record { within = c.loop-what.invariant.2; short = c.requires.short }

pub shape_of-out-then-e-i : goal.shape_of-out-then-e-i
shape_of-out-then-e-i c = c.loop-what.invariant.0

pub returns-then-e-i : goal.returns-then-e-i
unfolding ship_words
returns-then-e-i c =
    record {
      is = sofar_done _ _ _ _ _ _ _ _ _ c.loop-what.invariant.3 (words_none _ _ _ _ _ c.list_ends.ensures c.if-list_ends.false _ c.piece_end-e.ensures.is c.if-e-i.true);
      moved = record { onward = c.loop-what.invariant.1; inside = c.loop-what.invariant.2 };
    }

pub loop-what-smaller : goal.loop-what-smaller
loop-what-smaller c =
    let w = c.piece_end-e.ensures.moved in
    let g = c.gap_end-i.ensures.moved in
    let a = w.onward in
    let d = g.onward in
    let b = g.inside in
    let h = c.if-e-i.false in
    omega arith

pub loop-what-preserved : goal.loop-what-preserved
loop-what-preserved c =
    let a = c.piece_end-e.ensures.moved.onward in
    let d = c.gap_end-i.ensures.moved.onward in
    let b = c.gap_end-i.ensures.moved.inside in
    let h = c.if-e-i.false in
    let i = c.loop-what.invariant.1 in (
      c.put_spaced-m.auto.out ∙ c.loop-what.invariant.0,
      omega arith,
      b,
      sofar_on _ _ _ _ _ _ _ _ _ c.loop-what.invariant.3 (record { text = spaced _ c.loop-what.i c.piece_end-e.result; at = c.gap_end-i.result }) (words_on _ _ _ _ _ c.list_ends.ensures c.if-list_ends.false _ c.piece_end-e.ensures.is h _ c.gap_end-i.ensures.is) _ _ _ (wrote_at _ _ _ _ _ _ _ c.put_spaced-m.ensures refl) _ (omega arith),
    )
