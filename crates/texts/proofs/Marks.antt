-- The mark `%}` that is found is the first one, and none is found exactly where none stands. Assumes nothing.
use Rattle.std.specs.Prelude.{Option, Some, None}
use Prim.Native.Nat.{ℕ, ◌+◌, ◌≤◌, ◌<◌}
use mathlib.Core.Path.{◌≡◌, refl, sym, ◌∙◌, ap}
use mathlib.Core.List.{List, [], ◌∷◌}
use mathlib.Core.Bool.{false≢true}
use mathlib.Core.Logic.{◌↔◌, ⊎_elim}
use native.Mathlib.Omega.{arith}
use native.Mathlib.Decide.{ℕ_discrete}
use lib.ListN.{length, drop, length-drop}
use Rattle.scan.specs.Scan.{begins, starts_at}
use Rattle.scan.specs.Lines.{lines_here, lines_to}
use Rattle.scan.proofs.Bytes.{le_or_lt, on_test, told, drop_next, byte_below}
use Rattle.texts.specs.Mark.{mark, marked, marked_from, marked_at, MarkAt, FirstMark}
use Rattle.texts.proofs.Laws.{starts_mark, mark_starts}
use Rattle.texts.proofs.Lines.{mark_tells}

module _ (s : List ℕ) where
  -- There is one first mark at most.
  pub mark_one : (from to to' : ℕ) → FirstMark s from to → FirstMark s from to' → to ≡ to'
  mark_one from to to' x y =
      ⊎_elim
      (λ h. ⊎_elim (λ k. omega arith) (λ k. absurd (x.before to' y.onward k y.stands)) (le_or_lt to to'))
      (λ h. absurd (y.before to x.onward h x.stands))
      (le_or_lt to' to)

  -- what the scan answers from i on
  abbrev Tells : ℕ → Option (ℕ × ℕ) → Type 0
  Tells i (Some (to, n)) = FirstMark s i to
  Tells i None = (k : ℕ) → i ≤ k → MarkAt s k → ⊥

  -- an index passed where no mark stands
  module _ (i : ℕ) (f : MarkAt s i → ⊥) where
    past : (P : ℕ → Type 0) → ((k : ℕ) → i + 1 ≤ k → P k → MarkAt s k → ⊥) → (k : ℕ) → i ≤ k → P k → MarkAt s k → ⊥
    past P g k h p x = elim (ℕ_discrete k i) [ yes q ↦ f (rw q at x) | no q ↦ g k (omega arith) p x ]

    tells_on : (r : Option (ℕ × ℕ)) → Tells (i + 1) r → Tells i r
    tells_on (Some (to, n)) x = let h = x.onward in record { onward = omega arith; stands = x.stands; before = past (λ k. k < to) x.before }
    tells_on None x = λ k h. past (λ k. Unit {0}) (λ k a p. x k a) k h tt

  tells : (l : List ℕ) (i n : ℕ) → drop i s ≡ l → Tells i (marked l i n)
  unfolding marked starts_at
  tells [] i n q =
      λ k h x.
      let a = byte_below s k 37 (omega arith) x.0 in
      let b = length-drop i s in
      let m : length (drop i s) ≡ 0 = ap length q in
      omega arith
  tells (c ∷ cs) i n q =
      on_test (Tells i) (begins mark (c ∷ cs)) _ _
      (λ t. record { onward = omega arith; stands = starts_mark s i (rw q t); before = λ k a b. absurd (omega arith) })
      (λ t. tells_on i (λ x. false≢true (sym t ∙ (rw q at (mark_starts s i x)))) (marked cs (i + 1) (n + lines_here c cs)) (tells cs (i + 1) (n + lines_here c cs) (drop_next s i c cs q)))

  module _ (from : ℕ) where
    answers : Tells from (marked_at s from)
    unfolding marked_from
    answers = tells (drop from s) from 0 refl

    -- What is found is exactly the first mark from an index on, with the lines that end before it,
    pub mark_first : (to n : ℕ) → (marked_at s from ≡ Some (to, n)) ↔ (FirstMark s from to × (lines_to s from + n ≡ lines_to s to))
    mark_first to n = (λ e. (told (Tells from) e answers, mark_tells s from to n e), λ x. go (marked_at s from) refl answers x.0 x.1)
      where
        go : (r : Option (ℕ × ℕ)) → marked_at s from ≡ r → Tells from r → FirstMark s from to → lines_to s from + n ≡ lines_to s to → r ≡ Some (to, n)
        go (Some (j, m)) e y x l =
            let z = mark_one from j to y x in
            let k = rw z at (mark_tells s from j m e) in
            let u : m ≡ n = omega arith in
            rw (z, u)
        go None e y x l = absurd (y to x.onward x.stands)

    -- and nothing is found exactly where no mark stands.
    pub no_mark_iff : (marked_at s from ≡ None) ↔ ((k : ℕ) → from ≤ k → MarkAt s k → ⊥)
    no_mark_iff = (λ e. told (Tells from) e answers, λ f. go (marked_at s from) answers f)
      where
        go : (r : Option (ℕ × ℕ)) → Tells from r → ((k : ℕ) → from ≤ k → MarkAt s k → ⊥) → r ≡ None
        go (Some (j, m)) y f = absurd (f j y.onward y.stands)
        go None y f = refl
