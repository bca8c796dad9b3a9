-- `shipper::line_words`: the loop's turns are those of its definition.
use mathlib.Core.Path.{refl, ◌∙◌}
use native.Mathlib.Omega.{arith}
use Rattle.scan.proofs.Bytes.{told}
use Rattle.grammar.specs.State.{Gapped}
use Rattle.shipper.specs.Ship.{line_words, spaced}
use Rattle.shipper.proofs.Laws.{sofar_start, sofar_done, sofar_last, sofar_on, line_none, line_more, line_ends_lem, line_refused, wrote_at}
use Rattle.shipper.proofs.line_words.Goals as goal

pub loop-i-init : goal.loop-i-init
loop-i-init c = (refl, omega arith, c.requires.within, sofar_start _ _ _ _ _ _ (omega arith))

pub token_end-e-requires : goal.token_end-e-requires
token_end-e-requires c = record { within = c.loop-i.invariant.2; short = c.requires.short }

pub shape_of-out-then-e-i : goal.shape_of-out-then-e-i
shape_of-out-then-e-i c = c.loop-i.invariant.0

pub returns-then-e-i : goal.returns-then-e-i
unfolding line_words
returns-then-e-i c =
    record {
      is = sofar_done _ _ _ _ _ _ _ _ _ c.loop-i.invariant.3 (line_none _ _ _ _ c.token_end-e.ensures.is c.if-e-i.true);
      moved = record { onward = c.loop-i.invariant.1; inside = c.loop-i.invariant.2 };
    }

pub shape_of-out-then-lines-ne0 : goal.shape_of-out-then-lines-ne0
shape_of-out-then-lines-ne0 c = c.put_spaced-m.auto.out ∙ c.loop-i.invariant.0

pub returns-then-lines-ne0 : goal.returns-then-lines-ne0
unfolding line_words
returns-then-lines-ne0 c =
    let g = told (Gapped _ _) c.in-Ok.is c.pass_gap.ensures.moved in
    let a = c.token_end-e.ensures.moved.onward in
    let d = g.0 in
    let b = g.1 in
    let i = c.loop-i.invariant.1 in
    let t = line_ends_lem _ _ _ _ c.token_end-e.ensures.is c.if-e-i.false _ c.pass_gap.ensures.is _ _ c.in-Ok.is c.if-lines-ne0.true in
    record {
      is = sofar_last _ _ _ _ _ _ _ _ _ c.loop-i.invariant.3 (record { text = spaced _ c.loop-i.i c.token_end-e.result; at = _ }) t _ (wrote_at _ _ _ _ _ _ _ c.put_spaced-m.ensures refl);
      moved = record { onward = omega arith; inside = b };
    }

pub loop-i-smaller : goal.loop-i-smaller
loop-i-smaller c =
    let w = c.token_end-e.ensures.moved in
    let g = told (Gapped _ _) c.in-Ok.is c.pass_gap.ensures.moved in
    let a = w.onward in
    let d = g.0 in
    let b = g.1 in
    let h = c.if-e-i.false in
    omega arith

pub loop-i-preserved : goal.loop-i-preserved
loop-i-preserved c =
    let g = told (Gapped _ _) c.in-Ok.is c.pass_gap.ensures.moved in
    let a = c.token_end-e.ensures.moved.onward in
    let d = g.0 in
    let b = g.1 in
    let h = c.if-e-i.false in
    let i = c.loop-i.invariant.1 in
    let t = line_more _ _ _ _ c.token_end-e.ensures.is h _ c.pass_gap.ensures.is _ _ c.in-Ok.is c.if-lines-ne0.false in (
      c.put_spaced-m.auto.out ∙ c.loop-i.invariant.0,
      omega arith,
      b,
      sofar_on _ _ _ _ _ _ _ _ _ c.loop-i.invariant.3 (record { text = spaced _ c.loop-i.i c.token_end-e.result; at = _ }) t _ _ _ (wrote_at _ _ _ _ _ _ _ c.put_spaced-m.ensures refl) _ (omega arith),
    )

pub shape_of-out-in-Err : goal.shape_of-out-in-Err
shape_of-out-in-Err c = c.put_spaced-m.auto.out ∙ c.loop-i.invariant.0

pub returns-in-Err : goal.returns-in-Err
unfolding line_words
returns-in-Err c =
    let a = c.token_end-e.ensures.moved.onward in
    let i = c.loop-i.invariant.1 in
    let t = line_refused _ _ _ _ c.token_end-e.ensures.is c.if-e-i.false _ c.pass_gap.ensures.is _ c.in-Err.is in
    record {
      is = sofar_last _ _ _ _ _ _ _ _ _ c.loop-i.invariant.3 (record { text = spaced _ c.loop-i.i c.token_end-e.result; at = c.token_end-e.result }) t _ (wrote_at _ _ _ _ _ _ _ c.put_spaced-m.ensures refl);
      moved = record { onward = omega arith; inside = c.token_end-e.ensures.moved.inside };
    }
