-- What a line's begin is, and the line and column of every place of a source that is not too long. Assumes nothing.
use Prim.Native.Nat.{ℕ, zero, suc, ◌+◌, ◌-◌, ◌≤◌, ◌<◌}
use mathlib.Core.Path.{◌≡◌, refl, sym, ap, ◌∙◌}
use mathlib.Core.List.{List}
use mathlib.Core.Bool.{Bool, true, false}
use mathlib.Core.Logic.{inl, inr, ⊎_elim}
use native.Mathlib.Decide.{dec_lt}
use native.Mathlib.Omega.{arith}
use lib.Dec.{eqb}
use lib.ListN.{length, get_or, drop}
use borrow.Author.Tests.{eqb-true, eqb-false}
use Rattle.scan.specs.Lines.{lines_at, lines_to}
use Rattle.scan.proofs.Bytes.{le_or_lt}
use Rattle.scan.proofs.Lines.{here_few}
use Rattle.places.specs.Places.{line_start, LineBegins, Spotted, spot_of, spot_at}
use Rattle.places.specs.declared.Spot.{Spot}
use Rattle.places.proofs.Laws.{spot_long, spot_inside, spot_end}

-- The scan finds the line's begin,
pub start_is : (s : List ℕ) (i : ℕ) → LineBegins s i (line_start s i)
unfolding line_start lines_at
start_is s zero = record { before = omega arith; edge = inl refl; within = λ k a b. absurd (omega arith) }
start_is s (suc i) = go (eqb (lines_at s i) 0) refl (start_is s i)
  where
    go : (f : Bool) → eqb (lines_at s i) 0 ≡ f → LineBegins s i (line_start s i) → LineBegins s (suc i) (elim f [ true ↦ line_start s i | false ↦ suc i ])
    go true e x =
        let h = x.before in
        record { before = omega arith; edge = x.edge; within = λ k a b. elim (dec_lt k i) [ yes y ↦ x.within k a y | no y ↦ (let z : k ≡ i = omega arith in rw z (eqb-true _ _ e)) ] }
    go false e x =
        let z : suc i - 1 ≡ i = omega arith in
        let f = eqb-false (lines_at s i) 0 e in
        let l = here_few (get_or s i 0) (drop (i + 1) s) in
        let n : lines_at s i ≡ 1 = omega arith in
        record { before = omega arith; edge = inr (omega arith, rw z n); within = λ k a b. absurd (omega arith) }

-- and there is only one.
pub start_one : (s : List ℕ) (i j k : ℕ) → LineBegins s i j → LineBegins s i k → j ≡ k
start_one s i j k x y =
    elim (dec_lt j k) [
      | yes a ↦ absurd (later j k x y a)
      | no a ↦ elim (dec_lt k j) [ yes b ↦ absurd (later k j y x b) | no b ↦ omega arith ]
    ]
  where
    later : (m n : ℕ) → LineBegins s i m → LineBegins s i n → m < n → ⊥
    later m n p q a =
        let h = q.before in
        ⊎_elim (λ e. omega arith) (λ e. let u = p.within (n - 1) (omega arith) (omega arith) in let v = e.1 in omega arith) q.edge

-- A place's line is one more than the lines that end before it, and its column one more than the bytes between its line's begin and it.
pub spot_is : (src : List ℕ) (i : ℕ) → length src ≤ 65536 → i ≤ length src → spot_at src i ≡ record { line = lines_to src i + 1; column = i - line_start src i + 1 }
spot_is src i h l = ⊎_elim (λ k. end (omega arith)) (λ k. sym (spot_inside src i (spot_of src i) h k refl)) (le_or_lt (length src) i)
  where
    end : i ≡ length src → spot_at src i ≡ spot_of src i
    end e = sym (spot_end src i (spot_of src i) h (omega arith) (rw e refl))

-- The source's begin is line 1, column 1, however long the source is.
pub spot_first : (src : List ℕ) → spot_at src 0 ≡ record { line = 1; column = 1 }
unfolding lines_to line_start
spot_first src = ⊎_elim (λ h. spot_is src 0 h (omega arith)) (λ h. sym (spot_long src 0 h)) (le_or_lt (length src) 65536)

-- So `spot_at` says of every place of a source that is not too long, and of the begin of any source, what line and column are,
pub spotted : (src : List ℕ) (i : ℕ) → length src ≤ 65536 → i ≤ length src → Spotted src i (spot_at src i)
spotted src i h l = let e = spot_is src i h l in record { start = line_start src i; begins = start_is src i; line = ap (λ (s : Spot). s.line) e; column = ap (λ (s : Spot). s.column) e }

pub spotted_first : (src : List ℕ) → Spotted src 0 (spot_at src 0)
unfolding lines_to
spotted_first src =
    let e = spot_first src in
    record {
      start = 0;
      begins = record { before = omega arith; edge = inl refl; within = λ k a b. absurd (omega arith) };
      line = ap (λ (s : Spot). s.line) e;
      column = ap (λ (s : Spot). s.column) e;
    }

-- and nothing else is.
pub spotted_one : (src : List ℕ) (i : ℕ) (p q : Spot) → Spotted src i p → Spotted src i q → p ≡ q
spotted_one src i p q x y =
    let e : x.start ≡ y.start = start_one src i x.start y.start x.begins y.begins in
    let l : p.line ≡ q.line = x.line ∙ sym y.line in
    let c : p.column ≡ q.column = x.column ∙ ap (λ (j : ℕ). i - j + 1) e ∙ sym y.column in
    rw (← l, ← c)
