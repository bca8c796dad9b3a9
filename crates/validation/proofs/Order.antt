-- What each outcome of validation says: of the soundness of the tables first, then of the first fault. Assumes nothing.
use Rattle.std.specs.Prelude.{Result, Ok, Err}
use Prim.Native.Nat.{ℕ}
use mathlib.Core.Path.{◌≡◌, refl, sym, ap, ◌∙◌}
use mathlib.Core.List.{List, [], ◌∷◌}
use mathlib.Core.Bool.{Bool, true, false, false≢true}
use mathlib.Core.Logic.{◌↔◌}
use native.Mathlib.Omega.{arith}
use Rattle.grammar.specs.Sound.{Tables, Indexes}
use Rattle.grammar.specs.declared.Counts.{Counts}
use Rattle.grammar.specs.declared.Singles.{Singles}
use Rattle.sound.specs.Test.{sound_test}
use Rattle.validation.specs.Faults.{first, faults, validity}
use Rattle.validation.specs.declared.Flaw.{Flaw}
use Rattle.validation.specs.declared.ValidityError.{ValidityError}
use Rattle.validation.specs.declared.ValidityError.TheVariants.{UnsoundTables, Invalid}
use Rattle.validation.proofs.Laws.{first_none}

-- outcomes differ
unsound_valid : ◌≡◌ {A = Result (Unit {0}) ValidityError} (Err UnsoundTables) (Ok tt) → ⊥
unsound_valid e = let z : ◌≡◌ {A = ℕ} 0 1 = cc in omega arith

unsound_flaw : (x : Flaw) → ◌≡◌ {A = Result (Unit {0}) ValidityError} (Err UnsoundTables) (Err (Invalid x)) → ⊥
unsound_flaw x e = let z : ◌≡◌ {A = ℕ} 0 1 = cc in omega arith

valid_flaw : (x : Flaw) → ◌≡◌ {A = Result (Unit {0}) ValidityError} (Ok tt) (Err (Invalid x)) → ⊥
valid_flaw x e = let z : ◌≡◌ {A = ℕ} 0 1 = cc in omega arith

-- the first of the faults is no word about the tables
never_unsound : (fs : List Flaw) → first fs ≡ Err UnsoundTables → ⊥
never_unsound [] e = unsound_valid (sym e)
never_unsound (f ∷ fs) e = unsound_flaw f (sym e)

first_flaw : (fs : List Flaw) (x : Flaw) → first fs ≡ Err (Invalid x) → (rest : List Flaw) × (fs ≡ x ∷ rest)
first_flaw [] x e = absurd (valid_flaw x e)
first_flaw (f ∷ fs) x e = let h : f ≡ x = cc in (fs, ap (λ (y : Flaw). y ∷ fs) h)

-- a test, then faults
abbrev outcome : Bool → List Flaw → Result (Unit {0}) ValidityError
outcome q fs = elim q [ true ↦ first fs | false ↦ Err UnsoundTables ]

valid_iff : (q : Bool) (fs : List Flaw) → (outcome q fs ≡ Ok tt) ↔ ((q ≡ true) × (fs ≡ []))
valid_iff true fs = (λ e. (refl, first_none fs e), λ x. ap first x.1)
valid_iff false fs = (λ e. absurd (unsound_valid e), λ x. absurd (false≢true x.0))

unsound_iff : (q : Bool) (fs : List Flaw) → (outcome q fs ≡ Err UnsoundTables) ↔ (q ≡ false)
unsound_iff true fs = (λ e. absurd (never_unsound fs e), λ x. absurd (false≢true (sym x)))
unsound_iff false fs = (λ e. refl, λ x. refl)

flaw_iff : (q : Bool) (fs : List Flaw) (x : Flaw) → (outcome q fs ≡ Err (Invalid x)) ↔ ((q ≡ true) × (rest : List Flaw) × (fs ≡ x ∷ rest))
flaw_iff true fs x = (λ e. (refl, (first_flaw fs x e).0, (first_flaw fs x e).1), λ y. ap first y.2)
flaw_iff false fs x = (λ e. absurd (unsound_flaw x e), λ y. absurd (false≢true y.0))

module _ (src : List ℕ) (c : Counts) (g : Singles) (T : Tables) (X : Indexes) where
  abbrev all : List Flaw
  all = faults src c g T.t1 T.t2 T.t4 T.t5 T.t6 T.t7 T.t8 T.t9

  -- valid exactly where the tables are sound and no test fails; and the contract of `validate` allows one outcome only
  pub validity_first : ((validity src c g T X ≡ Ok tt) ↔ ((sound_test src c g T X ≡ true) × (all ≡ []))) × ((v w : Result (Unit {0}) ValidityError) → v ≡ validity src c g T X → w ≡ validity src c g T X → v ≡ w)
  unfolding validity
  validity_first = (valid_iff (sound_test src c g T X) all, λ v w e f. e ∙ sym f)

  -- 44 exactly where they are not sound
  pub validity_unsound : (validity src c g T X ≡ Err UnsoundTables) ↔ (sound_test src c g T X ≡ false)
  unfolding validity
  validity_unsound = unsound_iff (sound_test src c g T X) all

  -- a flaw exactly where they are sound and it is the first of all
  pub validity_flaw : (x : Flaw) → (validity src c g T X ≡ Err (Invalid x)) ↔ ((sound_test src c g T X ≡ true) × (rest : List Flaw) × (all ≡ x ∷ rest))
  unfolding validity
  validity_flaw x = flaw_iff (sound_test src c g T X) all x
