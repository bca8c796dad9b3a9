-- Integers: the value grows digit by digit, one law for each way through the loop, and where the answers lie. Assumes nothing.
use Rattle.std.specs.Prelude.{Result, Ok, Err}
use Prim.Native.Nat.{ℕ, zero, suc, ◌+◌, ◌-◌, ◌*◌, ◌^◌, ◌≤◌, ◌<◌}
use mathlib.Core.Path.{◌≡◌, refl, sym, ◌∙◌, ap}
use mathlib.Core.List.{List, [], ◌∷◌, ◌++◌}
use native.Mathlib.Nat.{pow-suc, mul_assoc}
use native.Mathlib.Numerals.{add-one}
use native.Mathlib.Omega.{arith}
use lib.Dec.{leb, ltb}
use lib.ListN.{length, get_or, take, drop, length-append, length-drop}
use lib.Seq.{slice, slice_empty, take-suc, drop-append-le, length-take-le, get_or-take, get_or-drop}
use borrow.Author.Tests.{le-leb, lt-leb, leb-false, le-ltb, lt-ltb}
use Rattle.scan.specs.declared.Class.TheVariants.{Digit}
use Rattle.scan.specs.Scan.{is_digit, in_class, run_end_at, Runs}
use Rattle.scan.proofs.Bytes.{on_test, within_true}
use Rattle.scan.proofs.Runs.{run_is}
use Rattle.words.specs.Numbers.{decimal, decimal_at, counted, int_at, Counted}
use Rattle.words.specs.declared.IntError.{IntError}
use Rattle.words.specs.declared.IntError.TheVariants.{NoDigits, TooLarge}

-- one digit more
decimal_snoc : (xs : List ℕ) (c : ℕ) → decimal (xs ++ (c ∷ [])) ≡ decimal xs * 10 + (c - 48)
unfolding decimal
decimal_snoc [] c = let e : 10 ^ 0 ≡ 1 = refl in rw e (omega arith)
decimal_snoc (x ∷ xs) c =
    let n : length (xs ++ (c ∷ [])) ≡ suc (length xs) = omega (arith, length-append xs (c ∷ [])) in
    let p = (x - 48) * 10 ^ length xs in
    let e : (x - 48) * 10 ^ suc (length xs) ≡ p * 10 = ap (λ m. (x - 48) * m) (pow-suc 10 (length xs)) ∙ sym (mul_assoc (x - 48) (10 ^ length xs) 10) in
    let h = decimal_snoc xs c in
    rw (n, e) (omega arith)

module _ (s : List ℕ) (from : ℕ) where
  slice_snoc : (j : ℕ) → from ≤ j → j < length s → slice from (j + 1) s ≡ slice from j s ++ (get_or s j 0 ∷ [])
  slice_snoc j h k =
      rw (add-one, take-suc s j 0 k) (drop-append-le from (take j s) (get_or s j 0 ∷ []) (omega (arith, length-take-le j s (omega arith))))

  pub value_none : 0 ≡ decimal_at s from from
  unfolding decimal_at decimal
  value_none = rw (slice_empty from s)

  value_next : (j : ℕ) → from ≤ j → j < length s → decimal_at s from (j + 1) ≡ decimal_at s from j * 10 + (get_or s j 0 - 48)
  unfolding decimal_at
  value_next j h k = rw (slice_snoc j h k) (decimal_snoc (slice from j s) (get_or s j 0))

  value_grows : (m j : ℕ) → from ≤ j → j + m ≤ length s → decimal_at s from j ≤ decimal_at s from (j + m)
  value_grows zero j h k = let e : j + 0 ≡ j = omega arith in rw e (omega arith)
  value_grows (suc m) j h k =
      let e : j + suc m ≡ j + 1 + m = omega arith in
      let a = value_next j h (omega arith) in
      let b = value_grows m (j + 1) (omega arith) (omega arith) in
      rw e (omega arith)

module _ (from to v : ℕ) where
  counted_none : to ≤ from → Err (NoDigits from) ≡ counted from to v
  unfolding counted
  counted_none h = rw (le-leb _ _ h, counted)

  counted_large : from < to → 18446744073709551616 ≤ v → Err (TooLarge from) ≡ counted from to v
  unfolding counted
  counted_large h k = rw (lt-leb _ _ h, le-ltb _ _ k, counted)

  counted_value : from < to → v < 18446744073709551616 → Ok (v, to) ≡ counted from to v
  unfolding counted
  counted_value h k = rw (lt-leb _ _ h, lt-ltb _ _ k, counted)

module _ (s : List ℕ) (from to : ℕ) (e : to ≡ run_end_at (in_class Digit) s from) where
  pub int_none : to ≤ from → Err (NoDigits from) ≡ int_at s from
  unfolding int_at
  int_none h = rw (← e) (counted_none from to _ h)

  module _ (h : from < to) where
    large : 18446744073709551616 ≤ decimal_at s from to → Err (TooLarge from) ≡ int_at s from
    unfolding int_at
    large k = rw (← e) (counted_large from to _ h k)

    pub int_value : (v j : ℕ) → v ≡ decimal_at s from j → v ≤ 18446744073709551615 → j ≤ to → to ≤ j → Ok (v, to) ≡ int_at s from
    unfolding int_at
    int_value v j q f a b =
        let z : j ≡ to = omega arith in
        let y : v ≡ decimal_at s from to = rw z at q in
        rw (← e, ← y) (counted_value from to v h (omega arith))

  module _ (x : Runs (in_class Digit) s from to) where
    -- as many digits as the run has bytes
    int_size : length (take (to - from) (drop from s)) ≡ to - from
    int_size = let y = x.inside in length-take-le (to - from) (drop from s) (omega (arith, length-drop from s))

    pub int_all : from < to → (v k : ℕ) → v ≡ decimal_at s from (from + k) → v < 18446744073709551616 → k ≤ length (take (to - from) (drop from s)) → length (take (to - from) (drop from s)) ≤ k → Ok (v, to) ≡ int_at s from
    int_all h v k q f a b = let n = int_size in int_value h v (from + k) q (omega arith) (omega arith) (omega arith)

    module _ (v k : ℕ) (q : v ≡ decimal_at s from (from + k)) (b : k < length (take (to - from) (drop from s))) where
      below : k < to - from
      below = let n = int_size in omega arith

      item : get_or (take (to - from) (drop from s)) k 0 ≡ get_or s (from + k) 0
      item = let h = below in rw (get_or-take, get_or-drop)

      digit : (48 ≤ get_or s (from + k) 0) × (get_or s (from + k) 0 ≤ 57)
      unfolding in_class is_digit
      digit = let h = below in within_true 48 57 _ (x.each (from + k) (omega arith) (omega arith))

      pub int_digit : 48 ≤ get_or (take (to - from) (drop from s)) k 0
      int_digit = rw item digit.0

      pub int_next : v * 10 + (get_or (take (to - from) (drop from s)) k 0 - 48) ≡ decimal_at s from (from + (k + 1))
      int_next =
          let h = below in
          let y = x.inside in
          let z : from + (k + 1) ≡ from + k + 1 = omega arith in
          rw (item, z, q) (sym (value_next s from (from + k) (omega arith) (omega arith)))

      pub int_over : 18446744073709551616 ≤ v * 10 + (get_or (take (to - from) (drop from s)) k 0 - 48) → Err (TooLarge from) ≡ int_at s from
      int_over u =
          let h = below in
          let n = int_next in
          let y = x.inside in
          let z : from + (k + 1) + (to - (from + (k + 1))) ≡ to = omega arith in
          let g = rw z at (value_grows s from (to - (from + (k + 1))) (from + (k + 1)) (omega arith) (omega arith)) in
          large (omega arith) (omega arith)

module _ (s : List ℕ) (from : ℕ) (h : from ≤ length s) where
  ints : Counted s from (int_at s from)
  unfolding int_at counted
  ints =
      on_test (Counted s from) (leb (run_end_at (in_class Digit) s from) from) _ _ (λ e. refl)
      (λ f. on_test (Counted s from) (ltb (decimal_at s from (run_end_at (in_class Digit) s from)) 18446744073709551616) _ _
      (λ e. (leb-false _ _ f, (run_is (in_class Digit) s from h).inside))
      (λ e. refl))

  pub int_placed : (r : Result (ℕ × ℕ) IntError) → r ≡ int_at s from → (r ≡ int_at s from) × Counted s from r
  int_placed r e = (e, rw e ints)
