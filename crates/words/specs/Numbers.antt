-- Document 01, "Words": integers.
use Rattle.std.specs.Prelude.{ℕ, ◌+◌, ◌-◌, ◌*◌, ◌^◌, ◌≤◌, ◌<◌, ◌≡◌, List, [], ◌∷◌, true, false, leb, ltb, length, Result, Ok, Err}
use Rattle.std.proofs.Math.Seq.{slice}
use Rattle.scan.specs.declared.Class.TheVariants.{Digit}
use Rattle.scan.specs.Scan.{in_class, run_end_at, Runs}
use Rattle.words.specs.declared.IntError.{IntError}
use Rattle.words.specs.declared.IntError.TheVariants.{NoDigits, TooLarge}

-- the decimal value of digits: each counts ten times for every digit behind it
unfoldable pub decimal : List ℕ → ℕ
decimal [] = 0
decimal (c ∷ cs) = (c - 48) * 10 ^ length cs + decimal cs

-- the same, of the bytes from one index to another
unfoldable pub decimal_at : List ℕ → ℕ → ℕ → ℕ
decimal_at s from to = decimal (slice from to s)

unfoldable pub counted : ℕ → ℕ → ℕ → Result (ℕ × ℕ) IntError
counted i to v =
    elim (leb to i) [ true ↦ Err (NoDigits i) | false ↦ elim (ltb v 18446744073709551616) [ true ↦ Ok (v, to) | false ↦ Err (TooLarge i) ] ]

-- "An integer fits 64 unsigned bits."
unfoldable pub int_at : List ℕ → ℕ → Result (ℕ × ℕ) IntError
int_at s i = counted i (run_end_at (in_class Digit) s i) (decimal_at s i (run_end_at (in_class Digit) s i))

-- Places: an integer is not empty and ends in the source; 1 is where it was sought.
abbrev pub Counted : List ℕ → ℕ → Result (ℕ × ℕ) IntError → Type 0
Counted s from (Ok (v, to)) = (from < to) × (to ≤ length s)
Counted s from (Err (NoDigits i)) = i ≡ from
Counted s from (Err (TooLarge i)) = i ≡ from

-- document 01's number and values: 0, the value and the end; 1 IllegalInteger where it was sought
unfoldable pub int_numbers : Result (ℕ × ℕ) IntError → List ℕ
int_numbers (Ok (v, to)) = 0 ∷ v ∷ to ∷ []
int_numbers (Err (NoDigits i)) = 1 ∷ i ∷ []
int_numbers (Err (TooLarge i)) = 1 ∷ i ∷ []

-- What an integer is without a scan: digits, as many as there are, and their decimal value.
pub record IsInt (s : List ℕ) (from to v : ℕ) : Type 0 where
  pub some : from < to
  pub digits : Runs (in_class Digit) s from to
  pub value : decimal_at s from to ≡ v
  pub fits : v < 2 ^ 64
