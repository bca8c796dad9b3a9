-- One law for each way through the checking loop. Assumes nothing.
use Rattle.std.specs.Prelude.{Option, Some, None, Result, Ok, Err}
use Prim.Native.Nat.{ℕ, zero, suc, ◌+◌, ◌-◌, ◌≤◌, ◌<◌}
use mathlib.Core.Path.{◌≡◌, refl, sym, ◌∙◌}
use mathlib.Core.List.{List, [], ◌∷◌}
use native.Mathlib.Omega.{arith}
use lib.ListN.{length, get_or, drop, drop_of_length-le}
use lib.Seq.{drop-nil, drop-drop}
use borrow.Author.Tests.{lt-ltb, ltb-true}
use Rattle.scan.specs.declared.Class.TheVariants.{Ascii}
use Rattle.scan.specs.Scan.{in_class, Runs}
use Rattle.scan.proofs.Bytes.{drop_at}
use Rattle.scan.proofs.Runs.{run_keeps, run_past}
use Rattle.utf8.specs.Utf8.{lead_of, begun, decode, decode_at}
use Rattle.utf8.proofs.Utf8.{decode_past}
use Rattle.whole.specs.Whole.{check, check_at}

-- the bytes of a code point are passed over
skip : (k : ℕ) (l : List ℕ) (i : ℕ) → check k l i ≡ check 0 (drop k l) (i + k)
unfolding check
skip k [] i = rw (drop-nil k)
skip zero (a ∷ bs) i = let e : i + 0 ≡ i = omega arith in rw e
skip (suc k) (a ∷ bs) i = let e : i + suc k ≡ i + 1 + k = omega arith in rw e (skip k bs (i + 1))

pub check_point : (l : List ℕ) (i p j : ℕ) → decode l i ≡ Some (p, j) → check 0 l i ≡ check 0 (drop (j - i) l) j
unfolding check decode
check_point [] i p j e = let z : ◌≡◌ {A = ℕ} 0 1 = cc in absurd (omega arith)
check_point (a ∷ bs) i p j e =
    let h : i < j = decode_past (a ∷ bs) i p j e in
    let f : j - i ≡ suc (j - (i + 1)) = omega arith in
    let g : i + 1 + (j - (i + 1)) ≡ j = omega arith in
    rw (e, f, check) (rw g at (skip (j - (i + 1)) bs (i + 1)))

-- a byte that is a code point by itself
plain : (a : ℕ) (bs : List ℕ) (i : ℕ) → a < 128 → decode (a ∷ bs) i ≡ Some (a, i + 1)
unfolding decode lead_of begun
plain a bs i l = rw (lt-ltb a 128 l, lead_of)

pub decode_plain : (s : List ℕ) (i : ℕ) → i < length s → get_or s i 0 < 128 → decode_at s i ≡ Some (get_or s i 0, i + 1)
unfolding decode_at
decode_plain s i h l = rw (drop_at s i h) (plain (get_or s i 0) (drop (i + 1) s) i l)

module _ (s : List ℕ) (i : ℕ) (r : Result (Unit {0}) ℕ) (inv : check_at s i ≡ r) where
  pub check_end : length s ≤ i → Ok tt ≡ r
  unfolding check check_at
  check_end h = rw (drop_of_length-le s h) at inv

  module _ (d : Option (ℕ × ℕ)) (q : d ≡ decode_at s i) where
    pub check_on : (p j : ℕ) → d ≡ Some (p, j) → check_at s j ≡ r
    unfolding check_at decode_at
    check_on p j e =
        let f : decode (drop i s) i ≡ Some (p, j) = sym q ∙ e in
        let h = decode_past (drop i s) i p j f in
        let g : i + (j - i) ≡ j = omega arith in
        rw (check_point (drop i s) i p j f, drop-drop (j - i) i s, g) at inv

    pub check_bad : i < length s → d ≡ None → Err i ≡ r
    unfolding check check_at decode_at
    check_bad h e =
        let f : decode (drop i s) i ≡ None = sym q ∙ e in
        let g = drop_at s i h in
        rw (g, rw g at f, check) at inv

    pub check_less : (p j : ℕ) → i < length s → d ≡ Some (p, j) → length s - j < length s - i
    unfolding decode_at
    check_less p j h e = let k = decode_past (drop i s) i p j (sym q ∙ e) in omega arith

  check_plain : i < length s → get_or s i 0 < 128 → check_at s (i + 1) ≡ r
  check_plain h l = check_on (decode_at s i) refl (get_or s i 0) (i + 1) (decode_plain s i h l)

-- a run of such bytes, the first of which was tested
module _ (s : List ℕ) (i e : ℕ) (x : Runs (in_class Ascii) s i e) where
  pub check_run : (r : Result (Unit {0}) ℕ) → check_at s i ≡ r → check_at s e ≡ r
  unfolding in_class
  check_run r inv = run_keeps (λ k. check_at s k ≡ r) (in_class Ascii) s i e x (λ k h t v. check_plain s k r v h (ltb-true _ _ t)) inv

  pub run_less : i < length s → get_or s i 0 < 128 → length s - e < length s - i
  unfolding in_class
  run_less h l = let p = run_past (in_class Ascii) s i e x h (lt-ltb _ _ l) in omega arith
