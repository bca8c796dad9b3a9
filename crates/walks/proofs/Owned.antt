-- Formulas in a row, for walks by hand: tokens, what parameters own, and nothings. Assumes nothing.
use Prim.Native.Nat.{ℕ, zero, suc}
use mathlib.Core.List.{List, [], ◌∷◌}
use seplogic.Ra.Ura.{Ura}
use base.Logic.{ent, sep, emp, id⊢, via, assoc∗, assoc', mono_r, snd∗, emp∗}
use base.Fml.{Fml, ftrue, fsep}
use types.Logic.{Logic, sem}

-- Ps under ∗, and Q at the end
abbrev pub row : List Fml → Fml → Fml
row [] Q = Q
row (P ∷ Ps) Q = fsep P (row Ps Q)

abbrev pub trues : ℕ → List Fml
trues zero = []
trues (suc n) = ftrue ∷ trues n

module _ {M : Type 1} {𝓤 : Ura M} (𝓛 : Logic 𝓤) where
  -- the end is taken off
  pub off : (Ps : List Fml) (Q : Fml) → ent 𝓤 (sem 𝓛 (row Ps Q)) (sep 𝓤 (sem 𝓛 (row Ps ftrue)) (sem 𝓛 Q))
  off [] Q = emp∗ 𝓤 (sem 𝓛 Q)
  off (P ∷ Ps) Q = via 𝓤 (sep 𝓤 (sem 𝓛 P) (sep 𝓤 (sem 𝓛 (row Ps ftrue)) (sem 𝓛 Q))) (mono_r 𝓤 (sem 𝓛 P) (off Ps Q)) (assoc' 𝓤 (sem 𝓛 P) (sem 𝓛 (row Ps ftrue)) (sem 𝓛 Q))

  -- an end is put on
  pub on : (Ps : List Fml) (Q : Fml) → ent 𝓤 (sep 𝓤 (sem 𝓛 (row Ps ftrue)) (sem 𝓛 Q)) (sem 𝓛 (row Ps Q))
  on [] Q = snd∗ 𝓤 (emp 𝓤) (sem 𝓛 Q)
  on (P ∷ Ps) Q = via 𝓤 (sep 𝓤 (sem 𝓛 P) (sep 𝓤 (sem 𝓛 (row Ps ftrue)) (sem 𝓛 Q))) (assoc∗ 𝓤 (sem 𝓛 P) (sem 𝓛 (row Ps ftrue)) (sem 𝓛 Q)) (mono_r 𝓤 (sem 𝓛 P) (on Ps Q))

  -- a row of nothing is put before it
  pub padded : (n : ℕ) (Q : Fml) → ent 𝓤 (sem 𝓛 Q) (sem 𝓛 (row (trues n) Q))
  padded zero Q = id⊢ 𝓤 (sem 𝓛 Q)
  padded (suc n) Q = via 𝓤 (sem 𝓛 (row (trues n) Q)) (padded n Q) (emp∗ 𝓤 (sem 𝓛 (row (trues n) Q)))
