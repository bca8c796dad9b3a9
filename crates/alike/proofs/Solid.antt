-- Where spacing ends, none follows; and spacing of one byte in front of what is none. Assumes nothing.
use Rattle.std.specs.Prelude.{Result, Ok, Err}
use Prim.Native.Nat.{ℕ, ◌+◌}
use mathlib.Core.Path.{◌≡◌, refl, ◌∙◌, ap}
use mathlib.Core.List.{List, [], ◌∷◌, ◌++◌}
use mathlib.Core.Bool.{Bool, true, false, not, ◌&&◌}
use mathlib.Core.Logic.{◌⊎◌, inl, inr}
use native.Mathlib.Omega.{arith}
use lib.Dec.{eqb}
use lib.ListN.{drop}
use borrow.Author.Tests.{eqb-true}
use Rattle.scan.proofs.Tuples.{ok_2}
use Rattle.scan.specs.Scan.{is_eol}
use Rattle.scan.specs.Lines.{lines_here}
use Rattle.scan.proofs.Bytes.{on_test, drop_next}
use Rattle.spacing.specs.Spacing.{is_blank, Mode, gap, slash, line, comment, slash_closes, spacing, spacing_at}
use Rattle.spacing.specs.declared.SpacingError.{SpacingError}
use Rattle.spacing.specs.declared.SpacingError.TheVariants.{LineEnd, OpenComment}
use Rattle.grammar.specs.State.{gap_of, gap_at}

-- no spacing of any kind stands in front
abbrev pub Solid : List ℕ → Type 0
Solid l = (kind : ℕ) (ok : Bool) (i n : ℕ) → spacing kind ok gap l i n ≡ Ok (i, n)

pub solid_byte : (c : ℕ) (cs : List ℕ) → is_blank c ≡ false → is_eol c ≡ false → eqb c 47 ≡ false → Solid (c ∷ cs)
unfolding spacing
solid_byte c cs a b d kind ok i n = rw (a, b, d, spacing)

pub solid_nil : Solid []
unfolding spacing
solid_nil kind ok i n = refl

-- the same by the first two bytes: neither blank nor line end, and if it is a `/`, neither `/` nor `*` behind it
abbrev Clear : ℕ → Type 0
Clear c = (is_blank c ≡ false) × (is_eol c ≡ false)

abbrev pub Stops : List ℕ → Type 0
Stops [] = Unit {0}
Stops (c ∷ []) = Clear c
Stops (c ∷ (d ∷ l)) = Clear c × ((eqb c 47 ≡ false) ⊎ ((eqb d 47 ≡ false) × (eqb d 42 ≡ false)))

pub stops_solid : (l : List ℕ) → Stops l → Solid l
unfolding spacing
stops_solid [] x kind ok i n = refl
stops_solid (c ∷ []) x kind ok i n = rw (x.0, x.1, spacing) (one (eqb c 47))
  where
    one : (b : Bool) → ◌≡◌ {A = Result (ℕ × ℕ) SpacingError} (elim b [ true ↦ Ok (i, n) | false ↦ Ok (i, n) ]) (Ok (i, n))
    one true = refl
    one false = refl
stops_solid (c ∷ (d ∷ l)) (x, inl e) kind ok i n = rw (x.0, x.1, e, spacing)
stops_solid (c ∷ (d ∷ l)) (x, inr (e, f)) kind ok i n = rw (x.0, x.1, spacing) (two (eqb c 47))
  where
    two : (b : Bool) → ◌≡◌ {A = Result (ℕ × ℕ) SpacingError} (elim b [ true ↦ spacing kind ok (slash i) (d ∷ l) (i + 1) n | false ↦ Ok (i, n) ]) (Ok (i, n))
    two true = rw (e, f, spacing)
    two false = refl

-- A text that begins where spacing ended, with another byte behind it that is neither `/` nor `*`, begins with no spacing either.
pub stops_text : (a : ℕ) (xs l : List ℕ) (c : ℕ) (r : List ℕ) → Stops ((a ∷ xs) ++ l) → eqb c 47 ≡ false → eqb c 42 ≡ false → Stops ((a ∷ xs) ++ (c ∷ r))
stops_text a [] [] c r x e f = (x, inr (e, f))
stops_text a [] (d ∷ l) c r x e f = (x.0, inr (e, f))
stops_text a (b ∷ ys) l c r x e f = x

module _ (kind : ℕ) (ok : Bool) (s : List ℕ) where
  abbrev Ends : Result (ℕ × ℕ) SpacingError → Type 0
  Ends (Ok (j, n)) = Stops (drop j s)
  Ends (Err (LineEnd i)) = Unit {0}
  Ends (Err (OpenComment i)) = Unit {0}

  abbrev Ready : Mode → List ℕ → Type 0
  Ready gap l = Unit {0}
  Ready (slash b) l = drop b s ≡ 47 ∷ l
  Ready line l = Unit {0}
  Ready (comment b behind) l = Unit {0}

  stops_byte : (c : ℕ) (cs : List ℕ) → is_blank c ≡ false → is_eol c ≡ false → eqb c 47 ≡ false → Stops (c ∷ cs)
  stops_byte c [] a b e = (a, b)
  stops_byte c (d ∷ l) a b e = ((a, b), inl e)

  stops : (l : List ℕ) (mode : Mode) (i n : ℕ) → drop i s ≡ l → Ready mode l → Ends (spacing kind ok mode l i n)
  unfolding spacing is_blank is_eol
  stops [] gap i n q x = rw q tt
  stops [] (slash b) i n q x = rw x (refl, refl)
  stops [] line i n q x = rw q tt
  stops [] (comment b behind) i n q x = tt
  stops (c ∷ cs) gap i n q x =
      on_test Ends (is_blank c) _ _ (λ e. stops cs gap (i + 1) n (drop_next s i c cs q) tt)
      (λ a. on_test Ends (is_eol c) _ _
      (λ e. on_test Ends (not ok) _ _ (λ r. tt) (λ r. stops cs gap (i + 1) _ (drop_next s i c cs q) tt))
      (λ b. on_test Ends (eqb c 47) _ _ (λ e. stops cs (slash i) (i + 1) n (drop_next s i c cs q) (q ∙ ap (λ (d : ℕ). d ∷ cs) (is c 47 e))) (λ e. rw q (stops_byte c cs a b e))))
    where
      is : (c d : ℕ) → eqb c d ≡ true → c ≡ d
      is c d e = eqb-true c d e
  stops (c ∷ cs) (slash b) i n q x =
      on_test Ends (eqb c 47) _ _ (λ e. stops cs line (i + 1) n (drop_next s i c cs q) tt)
      (λ f. on_test Ends (eqb c 42) _ _ (λ e. stops cs (comment b false) (i + 1) n (drop_next s i c cs q) tt) (λ e. rw x ((refl, refl), inr (f, e))))
  stops (c ∷ cs) line i n q x =
      on_test Ends (is_eol c) _ _ (λ e. stops cs gap (i + 1) _ (drop_next s i c cs q) tt) (λ e. stops cs line (i + 1) n (drop_next s i c cs q) tt)
  stops (c ∷ cs) (comment b behind) i n q x =
      on_test Ends (behind && eqb c 47) _ _ (λ e. stops cs gap (i + 1) n (drop_next s i c cs q) tt)
      (λ f. on_test Ends (is_eol c) _ _
      (λ e. on_test Ends (not ok) _ _ (λ r. tt) (λ r. stops cs (comment b (slash_closes kind)) (i + 1) _ (drop_next s i c cs q) tt))
      (λ g. stops cs (comment b (eqb c 42)) (i + 1) n (drop_next s i c cs q) tt))

  -- Where spacing ends, none follows.
  pub gap_stops : (i j n : ℕ) → gap_at kind ok s i ≡ Ok (j, n) → Stops (drop j s)
  unfolding gap_at gap_of spacing_at
  gap_stops i j n e = go (spacing kind ok gap (drop i s) i 0) (stops (drop i s) gap i 0 refl tt) e
    where
      go : (r : Result (ℕ × ℕ) SpacingError) → Ends r → gap_of r ≡ Ok (j, n) → Stops (drop j s)
      go (Ok (k, m)) x h = rw (ok_2 h).0 at x
      go (Err (LineEnd k)) x h = let z : ◌≡◌ {A = ℕ} 0 1 = cc in absurd (omega arith)
      go (Err (OpenComment k)) x h = let z : ◌≡◌ {A = ℕ} 0 1 = cc in absurd (omega arith)

  pub gap_solid : (i j n : ℕ) → gap_at kind ok s i ≡ Ok (j, n) → Solid (drop j s)
  gap_solid i j n e = stops_solid (drop j s) (gap_stops i j n e)

-- a single space, a line end, or nothing, in front of what is no spacing
module _ (s : List ℕ) (i : ℕ) (l : List ℕ) (x : Solid l) where
  pub gap_space : (kind : ℕ) (ok : Bool) → drop i s ≡ 32 ∷ l → gap_at kind ok s i ≡ Ok (i + 1, 0)
  unfolding gap_at gap_of spacing_at spacing is_blank
  gap_space kind ok q = rw (q, x kind ok (i + 1) 0)

  pub gap_line : (kind : ℕ) → drop i s ≡ 10 ∷ l → gap_at kind true s i ≡ Ok (i + 1, 1)
  unfolding gap_at gap_of spacing_at spacing is_blank is_eol lines_here
  gap_line kind q = rw (q, x kind true (i + 1) 1)

  pub gap_none : (kind : ℕ) (ok : Bool) → drop i s ≡ l → gap_at kind ok s i ≡ Ok (i, 0)
  unfolding gap_at gap_of spacing_at
  gap_none kind ok q = rw (q, x kind ok i 0)
