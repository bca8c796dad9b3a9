-- One step of the count of lines and of the line's begin, and the answers of `locate`, as rules for the code. Assumes nothing.
use Prim.Native.Nat.{ℕ, zero, suc, ◌+◌, ◌-◌, ◌≤◌, ◌<◌}
use mathlib.Core.Path.{◌≡◌, refl, sym, ◌∙◌}
use mathlib.Core.List.{List}
use native.Mathlib.Numerals.{add-one}
use native.Mathlib.Omega.{arith}
use lib.Dec.{eqb}
use lib.ListN.{length, get_or}
use borrow.Author.Tests.{eq-eqb, ne_eqb, le-ltb, lt-ltb}
use Rattle.scan.specs.Lines.{lines_here, lines_at, lines_to}
use Rattle.scan.proofs.Bytes.{on_test}
use Rattle.scan.proofs.Lines.{lines_step}
use Rattle.places.specs.Places.{line_start, spot_of, spot_at}
use Rattle.places.specs.declared.Spot.{Spot}

-- the source's begin
pub line_zero : (s : List ℕ) → 1 ≡ lines_to s 0 + 1
unfolding lines_to
line_zero s = refl

pub start_zero : (s : List ℕ) → 0 ≡ line_start s 0
unfolding line_start
start_zero s = refl

-- a byte more, with the callee's number m of lines that end with it
module _ (s : List ℕ) (k m : ℕ) (q : m ≡ lines_at s k) where
  pub line_same : (line : ℕ) → line ≡ lines_to s k + 1 → m ≡ 0 → line ≡ lines_to s (k + 1) + 1
  line_same line e z = let h = lines_step s k in omega arith

  pub line_more : (line : ℕ) → line ≡ lines_to s k + 1 → m ≤ 1 → (m ≡ 0 → ⊥) → line + 1 ≡ lines_to s (k + 1) + 1
  line_more line e l f = let h = lines_step s k in omega arith

  pub start_same : (start : ℕ) → start ≡ line_start s k → m ≡ 0 → start ≡ line_start s (k + 1)
  unfolding line_start
  start_same start e z = rw (add-one, line_start, eq-eqb (lines_at s k) 0 (sym q ∙ z)) e

  pub start_new : (m ≡ 0 → ⊥) → k + 1 ≡ line_start s (k + 1)
  unfolding line_start
  start_new f = rw (add-one, line_start, ne_eqb (lines_at s k) 0 (λ z. f (q ∙ z)))

-- no line ends with a byte above a CR
pub plain_none : (s : List ℕ) (k : ℕ) → 13 < get_or s k 0 → 0 ≡ lines_at s k
unfolding lines_at lines_here
plain_none s k h = rw (ne_eqb (get_or s k 0) 10 (λ e. omega arith), ne_eqb (get_or s k 0) 13 (λ e. omega arith), lines_here)

-- a line begins at its bytes or before
pub start_before : (s : List ℕ) (i : ℕ) → line_start s i ≤ i
unfolding line_start
start_before s zero = omega arith
start_before s (suc i) = let h = start_before s i in on_test (λ (n : ℕ). n ≤ suc i) (eqb (lines_at s i) 0) _ _ (λ e. omega arith) (λ e. omega arith)

pub spot_made : (s : List ℕ) (line start k to : ℕ) → k ≡ to → line ≡ lines_to s k + 1 → start ≡ line_start s k → ◌≡◌ {A = Spot} (record { line = line; column = to - start + 1 }) (spot_of s to)
spot_made s line start k to e a b = rw (a, b, e)

module _ (s : List ℕ) (at : ℕ) where
  pub spot_long : 65536 < length s → record { line = 1; column = 1 } ≡ spot_at s at
  unfolding spot_at
  spot_long h = rw (spot_at, lt-ltb _ _ h)

  module _ (r : Spot) (h : length s ≤ 65536) where
    pub spot_inside : at < length s → r ≡ spot_of s at → r ≡ spot_at s at
    unfolding spot_at
    spot_inside k e = rw (spot_at, le-ltb _ _ h, lt-ltb _ _ k) e

    pub spot_end : length s ≤ at → r ≡ spot_of s (length s) → r ≡ spot_at s at
    unfolding spot_at
    spot_end k e = rw (spot_at, le-ltb _ _ h, le-ltb _ _ k) e
