-- `usage::implies_by`: a name that is no token is in no row; else the slots tell.
use Prim.Native.Nat.{ℕ}
use mathlib.Core.Bool.{true}
use borrow.Author.Tests.{eqb-true, not-false}
use Rattle.usage.proofs.Excuses.{some_says}
use Rattle.usage.proofs.Guided.{implicit_met, implicit_none}
use Rattle.usage.proofs.implies_by.Goals as goal

pub returns : goal.returns
returns c =
    let k = eqb-true _ _ (not-false _ c.if-not-token.false-raw) in
    let m = c.meet.ensures (λ (r : ℕ). true) (c.requires k) in
    some_says _ _ c.is_some.ensures
    (λ (e : ℕ) s. implicit_met _ _ _ _ _ _ _ m e k s)
    (λ s. implicit_none _ _ _ _ _ _ _ m s)
