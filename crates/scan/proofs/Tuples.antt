-- Equal answers that hold several values have each of them equal: what `cc` does not take apart. Assumes nothing.
use mathlib.Core.Path.{◌≡◌, refl, ap}
use Rattle.std.specs.Prelude.{Option, Some, None, Result, Ok, Err}

-- what an answer holds, or else what is given
some_or : {A : Type 0} → A → Option A → A
some_or d (Some x) = x
some_or d None = d

ok_or : {A E : Type 0} → A → Result A E → A
ok_or d (Ok x) = x
ok_or d (Err e) = d

module _ {A B : Type 0} {a x : A} {b y : B} where
  pub some_2 : ◌≡◌ {A = Option (A × B)} (Some (a, b)) (Some (x, y)) → (a ≡ x) × (b ≡ y)
  unfolding some_or
  some_2 e = let d : (a, b) ≡ (x, y) = ap (some_or (a, b)) e in (ap (λ (p : A × B). p.0) d, ap (λ (p : A × B). p.1) d)

  pub ok_2 : {E : Type 0} → ◌≡◌ {A = Result (A × B) E} (Ok (a, b)) (Ok (x, y)) → (a ≡ x) × (b ≡ y)
  unfolding ok_or
  ok_2 e = let d : (a, b) ≡ (x, y) = ap (ok_or (a, b)) e in (ap (λ (p : A × B). p.0) d, ap (λ (p : A × B). p.1) d)

  module _ {C : Type 0} {c z : C} where
    pub some_3 : ◌≡◌ {A = Option (A × B × C)} (Some (a, b, c)) (Some (x, y, z)) → (a ≡ x) × (b ≡ y) × (c ≡ z)
    unfolding some_or
    some_3 e =
        let d : (a, b, c) ≡ (x, y, z) = ap (some_or (a, b, c)) e in
        (ap (λ (p : A × B × C). p.0) d, ap (λ (p : A × B × C). p.1) d, ap (λ (p : A × B × C). p.2) d)

    pub ok_3 : {E : Type 0} → ◌≡◌ {A = Result (A × B × C) E} (Ok (a, b, c)) (Ok (x, y, z)) → (a ≡ x) × (b ≡ y) × (c ≡ z)
    unfolding ok_or
    ok_3 e =
        let d : (a, b, c) ≡ (x, y, z) = ap (ok_or (a, b, c)) e in
        (ap (λ (p : A × B × C). p.0) d, ap (λ (p : A × B × C). p.1) d, ap (λ (p : A × B × C). p.2) d)

    module _ {D : Type 0} {g w : D} where
      pub some_4 : ◌≡◌ {A = Option (A × B × C × D)} (Some (a, b, c, g)) (Some (x, y, z, w)) → (a ≡ x) × (b ≡ y) × (c ≡ z) × (g ≡ w)
      unfolding some_or
      some_4 e =
          let d : (a, b, c, g) ≡ (x, y, z, w) = ap (some_or (a, b, c, g)) e in
          (ap (λ (p : A × B × C × D). p.0) d, ap (λ (p : A × B × C × D). p.1) d, ap (λ (p : A × B × C × D). p.2) d, ap (λ (p : A × B × C × D). p.3) d)

      pub ok_4 : {E : Type 0} → ◌≡◌ {A = Result (A × B × C × D) E} (Ok (a, b, c, g)) (Ok (x, y, z, w)) → (a ≡ x) × (b ≡ y) × (c ≡ z) × (g ≡ w)
      unfolding ok_or
      ok_4 e =
          let d : (a, b, c, g) ≡ (x, y, z, w) = ap (ok_or (a, b, c, g)) e in
          (ap (λ (p : A × B × C × D). p.0) d, ap (λ (p : A × B × C × D). p.1) d, ap (λ (p : A × B × C × D). p.2) d, ap (λ (p : A × B × C × D). p.3) d)

-- an answer and then what it holds, told one after the other
module _ {A E : Type 0} {r : Result A E} where
  pub err_is : {d e : E} → r ≡ Err d → d ≡ e → r ≡ Err e
  err_is p q = rw q at p

  pub ok_is : {a x : A} → r ≡ Ok a → a ≡ x → r ≡ Ok x
  ok_is p q = rw q at p
