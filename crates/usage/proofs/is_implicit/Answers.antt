-- `usage::is_implicit`: a name that is no token is in no row; else the search tells.
use Prim.Native.Nat.{ℕ}
use mathlib.Core.Path.{sym, ◌∙◌}
use Rattle.usage.proofs.Excuses.{some_says, implicit_yes, implicit_no}
use Rattle.usage.proofs.is_implicit.Goals as goal

pub returns : goal.returns
returns c =
    let a = c.args in
    some_says _ _ c.is_some.ensures
    (λ (r : ℕ) s. implicit_yes a.src.now a.t4.now a.n a.kind a.a a.b r c.if-kind-ne2.false (sym c.find.ensures ∙ s))
    (λ s. implicit_no a.src.now a.t4.now a.n a.kind a.a a.b (sym c.find.ensures ∙ s))
