-- A flaw has a number and a place; no table number and no count. Assumes nothing.
use mathlib.Core.Path.{◌≡◌, refl}
use mathlib.Core.List.{[], ◌∷◌, ◌++◌}
use lib.ListN.{take, get_or}
use Rattle.validation.specs.declared.Flaw.{Flaw}
use Rattle.validation.specs.declared.Flaw.TheVariants.{NoStartRule, InvalidStartRule, UnknownRuleRef, UnknownTokenRef, UnknownPrecToken, NoPrecForToken, UnknownEppKey}
use Rattle.validation.specs.Faults.{flaw_numbers}

pub flaw_told : (f : Flaw) → flaw_numbers f ++ (0 ∷ []) ≡ take 4 (flaw_numbers f ++ (0 ∷ 0 ∷ []))
flaw_told NoStartRule = refl
flaw_told (InvalidStartRule a b) = refl
flaw_told (UnknownRuleRef a b) = refl
flaw_told (UnknownTokenRef a b) = refl
flaw_told (UnknownPrecToken a b) = refl
flaw_told (NoPrecForToken a b) = refl
flaw_told (UnknownEppKey a b) = refl

pub flaw_count : (f : Flaw) → 0 ≡ get_or (flaw_numbers f ++ (0 ∷ 0 ∷ [])) 4 0
flaw_count NoStartRule = refl
flaw_count (InvalidStartRule a b) = refl
flaw_count (UnknownRuleRef a b) = refl
flaw_count (UnknownTokenRef a b) = refl
flaw_count (UnknownPrecToken a b) = refl
flaw_count (NoPrecForToken a b) = refl
flaw_count (UnknownEppKey a b) = refl
