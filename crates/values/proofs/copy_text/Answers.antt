-- `values::copy_text`: what is copied and what is left make the whole.
use mathlib.Core.Path.{◌∙◌, refl}
use native.Mathlib.Omega.{arith}
use borrow.Author.Rules.{rules}
use Rattle.values.proofs.Laws.{copy_start, copy_end, copy_byte, copy_escape}
use Rattle.values.proofs.copy_text.Goals as goal
use Rattle.values.proofs.copy_text.Goals.{then-c-ne92, else-c-ne92}

pub loop-i-init : goal.loop-i-init
loop-i-init c = (search rules, copy_start _ _ _ _)

pub loop-i-preserved : goal.loop-i-preserved
loop-i-preserved c =
    let h = c.loop-i-test.true in
    elim c.if-c-ne92.branch [
      | then-c-ne92 w ↦ (rw w.k-is (omega arith), copy_byte _ _ _ _ _ _ c.requires c.loop-i.invariant.1 h _ refl w.if-c-ne92.true _ w.k-is _ (w.out-is ∙ w.set_byte.ensures))
      | else-c-ne92 w ↦ (rw w.k-is (omega arith), rw (w.out-is, w.k-is) (copy_escape _ _ _ _ _ _ c.requires c.loop-i.invariant.1 h _ refl w.if-c-ne92.false))
    ]

pub returns : goal.returns
returns c = copy_end _ _ _ _ _ _ c.requires c.loop-i.invariant.1 c.loop-i-test.false
