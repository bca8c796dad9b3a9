-- `finder::find`: a row that is met is the one that is found, where names are pairwise different.
use Prim.Native.Nat.{ℕ}
use mathlib.Core.Bool.{true}
use Rattle.finder.proofs.Laws.{met_first}
use Rattle.finder.proofs.find.Goals as goal

pub returns : goal.returns
returns c = met_first _ _ _ _ _ _ _ c.requires.apart _ (c.meet.ensures (λ (q : ℕ). true) (λ r l y. c.requires.led r l))
