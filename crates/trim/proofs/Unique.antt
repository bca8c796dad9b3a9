-- What trimming is determines the place. Assumes nothing.
use Prim.Native.Nat.{ℕ, ◌+◌}
use mathlib.Core.Path.{◌≡◌, refl, sym, ◌∙◌, ap, ap₂}
use mathlib.Core.List.{List, [], ◌∷◌, ◌++◌, head-eq_of_cons-eq, tail-eq_of_cons-eq}
use mathlib.Core.Bool.{true, false}
use native.Mathlib.Omega.{arith}
use Rattle.scan.specs.declared.Place.{Place}
use Rattle.utf8.specs.White.{is_white}
use Rattle.trim.specs.Trims.{Blank, last_of, Edges, size, Trims}

both : (c : ℕ) → is_white c ≡ true → is_white c ≡ false → ⊥
both c h k = let z : ◌≡◌ {A = ℕ} 0 1 = cc in omega arith

blank_front : (xs ys : List ℕ) → Blank (xs ++ ys) → Blank xs
blank_front [] ys b = tt
blank_front (x ∷ xs) ys b = (b.0, blank_front xs ys b.1)

blank_last : (c : ℕ) (cs : List ℕ) → Blank (c ∷ cs) → is_white (last_of c cs) ≡ true
unfolding last_of
blank_last c [] b = b.0
blank_last c (d ∷ ds) b = blank_last d ds b.1

-- a text with edges is not all blank
edged : (c : ℕ) (cs after : List ℕ) → Blank (c ∷ (cs ++ after)) → is_white (last_of c cs) ≡ false → ⊥
edged c cs after b e = both (last_of c cs) (blank_last c cs (blank_front (c ∷ cs) after b)) e

tails : (c : ℕ) (xs a ys b : List ℕ) → Blank a → Blank b → is_white (last_of c xs) ≡ false → is_white (last_of c ys) ≡ false → xs ++ a ≡ ys ++ b → xs ≡ ys
unfolding last_of
tails c [] a [] b p q h k e = refl
tails c [] a (y ∷ ys) b p q h k e = absurd (edged y ys b (rw e at p) k)
tails c (x ∷ xs) a [] b p q h k e = absurd (edged x xs a (rw (sym e) at q) h)
tails c (x ∷ xs) a (y ∷ ys) b p q h k e =
    let f : x ≡ y = head-eq_of_cons-eq e in
    let g = tails y xs a ys b p q (rw f at h) k (tail-eq_of_cons-eq e) in
    ap₂ ◌∷◌ f g

-- the blanks before, where something is kept
heads : (xs ys : List ℕ) (c d : ℕ) (m n : List ℕ) → Blank xs → Blank ys → is_white c ≡ false → is_white d ≡ false → xs ++ (c ∷ m) ≡ ys ++ (d ∷ n) → (xs ≡ ys) × (c ≡ d) × (m ≡ n)
heads [] [] c d m n p q h k e = (refl, head-eq_of_cons-eq e, tail-eq_of_cons-eq e)
heads [] (y ∷ ys) c d m n p q h k e = absurd (both y q.0 (rw (head-eq_of_cons-eq e) at h))
heads (x ∷ xs) [] c d m n p q h k e = absurd (both x p.0 (rw (sym (head-eq_of_cons-eq e)) at k))
heads (x ∷ xs) (y ∷ ys) c d m n p q h k e =
    let r = heads xs ys c d m n p.1 q.1 h k (tail-eq_of_cons-eq e) in
    (ap₂ ◌∷◌ (head-eq_of_cons-eq e) r.0, r.1, r.2)

-- blanks only, against something kept
mixed : (a ys : List ℕ) (d : ℕ) (n : List ℕ) → Blank a → is_white d ≡ false → a ≡ ys ++ (d ∷ n) → ⊥
mixed [] [] d n p k e = let z : ◌≡◌ {A = ℕ} 0 1 = cc in omega arith
mixed [] (y ∷ ys) d n p k e = let z : ◌≡◌ {A = ℕ} 0 1 = cc in omega arith
mixed (x ∷ xs) [] d n p k e = both x p.0 (rw (sym (head-eq_of_cons-eq e)) at k)
mixed (x ∷ xs) (y ∷ ys) d n p k e = mixed xs ys d n p.1 k (tail-eq_of_cons-eq e)

split : (b₁ m₁ a₁ b₂ m₂ a₂ : List ℕ) → Blank b₁ → Blank b₂ → Blank a₁ → Blank a₂ → Edges m₁ → Edges m₂ → (m₁ ≡ [] → b₁ ≡ []) → (m₂ ≡ [] → b₂ ≡ []) → b₁ ++ (m₁ ++ a₁) ≡ b₂ ++ (m₂ ++ a₂) → (b₁ ≡ b₂) × (m₁ ≡ m₂)
split b₁ [] a₁ b₂ [] a₂ p q r t g h u v e = (u refl ∙ sym (v refl), refl)
split b₁ [] a₁ b₂ (d ∷ n) a₂ p q r t g h u v e = absurd (mixed a₁ b₂ d (n ++ a₂) r h.0 (rw (u refl) at e))
split b₁ (c ∷ m) a₁ b₂ [] a₂ p q r t g h u v e = absurd (mixed a₂ b₁ c (m ++ a₁) t g.0 (rw (v refl) at (sym e)))
split b₁ (c ∷ m) a₁ b₂ (d ∷ n) a₂ p q r t g h u v e =
    let x = heads b₁ b₂ c d (m ++ a₁) (n ++ a₂) p q g.0 h.0 e in
    let w = g.1 in
    let y = tails d m a₁ n a₂ r t (rw x.1 at w) h.1 x.2 in
    (x.0, ap₂ ◌∷◌ x.1 y)

pub trims_one : (from : ℕ) (cs : List ℕ) (r q : Place) → Trims from cs r → Trims from cs q → r ≡ q
trims_one from cs r q x y =
    let z = split x.before x.mid x.after y.before y.mid y.after x.blank_before y.blank_before x.blank_after y.blank_after x.edges y.edges x.empty y.empty (sym x.parts ∙ y.parts) in
    let a : r.from ≡ q.from = x.starts ∙ (ap (λ b. from + size b) z.0 ∙ sym y.starts) in
    let b : r.to ≡ q.to = x.ends ∙ (ap₂ (λ b m. from + size b + size m) z.0 z.1 ∙ sym y.ends) in
    λ i. record { from = a i; to = b i }
