-- A finder of rows whose names need not differ: what is met tells whether a name is known. Assumes nothing.
use Rattle.std.specs.Prelude.{Option, Some, None}
use Prim.Native.Nat.{ℕ}
use mathlib.Core.Path.{◌≡◌, refl, sym, ◌∙◌}
use mathlib.Core.List.{List}
use mathlib.Core.Bool.{true, false, false≢true}
use Rattle.tables.proofs.Cases.{find_cases}
use Rattle.finder.specs.Finder.{Met}
use Rattle.validation.specs.Faults.{is_row, known}

-- a name is known if a row is met
pub met_known : (src : List ℕ) (w n : ℕ) (t : List ℕ) (a b : ℕ) (f g : Option ℕ) → Met (λ (q : ℕ). true) src w 0 n t a b f → f ≡ g → is_row g ≡ known src t w n a b
unfolding known
met_known src w n t a b f g m h = go g (rw h at m)
  where
    go : (o : Option ℕ) → Met (λ (q : ℕ). true) src w 0 n t a b o → is_row o ≡ known src t w n a b
    go (Some r) x =
        find_cases (λ (o : Option ℕ). true ≡ is_row o) src w 0 n t a b
        (λ q l e none. refl)
        (λ none. absurd (false≢true (sym (none r x.0) ∙ x.1)))
    go None x =
        find_cases (λ (o : Option ℕ). false ≡ is_row o) src w 0 n t a b
        (λ q l e none. absurd (false≢true (sym (x q l refl) ∙ e)))
        (λ none. refl)
