-- `places::spot_in`: lines and the line's begin are those up to the index.
use mathlib.Core.Path.{refl}
use native.Mathlib.Omega.{arith}
use borrow.Author.Rules.{rules}
use Rattle.scan.proofs.Lines.{lines_few}
use Rattle.places.proofs.Laws.{line_zero, start_zero, plain_none, line_same, line_more, start_same, start_new, start_before, spot_made}
use Rattle.places.proofs.spot_in.Goals as goal

pub loop-k-init : goal.loop-k-init
loop-k-init c = search (line_zero, start_zero, rules)

pub loop-k-preserved-then-s-k-gt13 : goal.loop-k-preserved-then-s-k-gt13
loop-k-preserved-then-s-k-gt13 c =
    let z = plain_none c.args.s.now c.loop-k.k c.if-s-k-gt13.true in
    (omega arith, line_same _ _ 0 z _ c.loop-k.invariant.1 refl, start_same _ _ 0 z _ c.loop-k.invariant.2 refl)

pub loop-k-preserved-then-lines_at-eq0 : goal.loop-k-preserved-then-lines_at-eq0
loop-k-preserved-then-lines_at-eq0 c = search (line_same, start_same, rules)

pub overflow_add-line : goal.overflow_add-line
overflow_add-line c =
    let h = lines_few c.args.s.now c.loop-k.k in
    omega (arith, c.requires.to_in_bounds, c.requires.s_len_bound, c.loop-k.invariant.0, c.loop-k.invariant.1)

pub loop-k-preserved : goal.loop-k-preserved
loop-k-preserved c = search (line_more, start_new, rules)

pub overflow_sub-result : goal.overflow_sub-result
overflow_sub-result c = let h = start_before c.args.s.now c.loop-k.k in omega (arith, c.loop-k.invariant.0, c.loop-k.invariant.2)

pub returns : goal.returns
returns c = spot_made _ _ _ c.loop-k.k _ (omega (arith, c.loop-k.invariant.0)) c.loop-k.invariant.1 c.loop-k.invariant.2
