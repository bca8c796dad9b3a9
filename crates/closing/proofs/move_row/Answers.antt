use Prim.Native.Nat.{◌*◌}
use mathlib.Core.Path.{refl, ◌∙◌}
use native.Mathlib.Nat.{mul-le-mul_right}
use Rattle.closing.proofs.Laws.{move_more, move_all}
use native.Mathlib.Omega.{arith}
use Rattle.closing.proofs.move_row.Goals as goal

pub overflow_mul-b : goal.overflow_mul-b
overflow_mul-b c = omega (arith, mul-le-mul_right c.args.w c.requires.0)

pub loop-i-init : goal.loop-i-init
loop-i-init c = refl

pub loop-i-preserved : goal.loop-i-preserved
loop-i-preserved c =
    let a = c.args in
    move_more a.w a.from (a.to * a.w) c.loop-i.i a.t.now c.loop-i.t (mul-le-mul_right a.w c.requires.0) c.requires.1 (omega arith) c.loop-i.invariant

pub returns : goal.returns
returns c =
    let a = c.args in
    c.loop-i.invariant ∙ move_all a.w a.from a.to c.loop-i.i a.t.now c.requires.1 (omega arith)
