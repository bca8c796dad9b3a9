-- Words that stand in one source and, byte for byte, in another. Assumes nothing.
use Rattle.std.specs.Prelude.{Ok}
use Prim.Native.Nat.{ℕ, ◌+◌, ◌-◌, ◌≤◌, ◌<◌}
use mathlib.Core.Path.{◌≡◌, sym, ◌∙◌, ap}
use mathlib.Core.List.{List, ◌++◌}
use mathlib.Core.Bool.{Bool, true, false}
use native.Mathlib.Omega.{arith}
use lib.ListN.{length, get_or, drop, take, length-drop, length-append, get_or-append}
use lib.Seq.{slice, length-slice, get_or-take, get_or-drop, ext_get_or}
use borrow.Author.Tests.{eq-eqb}
use Rattle.scan.specs.declared.Class.{Class}
use Rattle.scan.specs.declared.Class.TheVariants.{NameStart, NameByte, TokenStart, TokenByte, Digit, Unquoted}
use Rattle.scan.specs.Scan.{in_class, Runs}
use Rattle.words.specs.Words.{name_at, token_at, found, IsWord}
use Rattle.words.specs.Numbers.{decimal, decimal_at, int_at}
use Rattle.words.proofs.Meaning.{name_iff, bare_iff, quoted_iff, int_iff}

-- what two things that differ come to
pub clash : ◌≡◌ {A = ℕ} 0 1 → ⊥
clash z = omega arith

-- the m bytes from i on in s are those from j on in t
pub record Agree (s t : List ℕ) (i j m : ℕ) : Type 0 where
  pub here : i + m ≤ length s
  pub there : j + m ≤ length t
  pub same : (x y : ℕ) → i ≤ x → x < i + m → y + i ≡ x + j → get_or s x 0 ≡ get_or t y 0

slice_at : (s : List ℕ) (a b k : ℕ) → k < b - a → get_or (slice a b s) k 0 ≡ get_or s (a + k) 0
slice_at s a b k h = get_or-drop a (take b s) k 0 ∙ get_or-take b s (a + k) 0 (omega arith)

-- so it is where the bytes of a part of s stand in t
pub agree_slice : (s t : List ℕ) (i m j : ℕ) (r : List ℕ) → i + m ≤ length s → drop j t ≡ slice i (i + m) s ++ r → j ≤ length t → Agree s t i j m
agree_slice s t i m j r h q l =
    let n = length-slice i (i + m) s h in
    let d : length (drop j t) ≡ length (slice i (i + m) s) + length r = ap length q ∙ length-append (slice i (i + m) s) r in
    let c = length-drop j t in
    record {
      here = h;
      there = omega arith;
      same = λ x y a b e.
          let z : i + (y - j) ≡ x = omega arith in
          let w : j + (y - j) ≡ y = omega arith in
          let u : get_or t (j + (y - j)) 0 ≡ get_or s (i + (y - j)) 0 = sym (get_or-drop j t (y - j) 0) ∙ ap (λ (v : List ℕ). get_or v (y - j) 0) q ∙ get_or-append (slice i (i + m) s) r 0 (y - j) (omega arith) ∙ slice_at s i (i + m) (y - j) (omega arith) in
          sym (rw (z, w) at u);
    }

-- and the parts of agreeing bytes are the same
pub slice_agree : (s t : List ℕ) (i j m a b c d : ℕ) → Agree s t i j m → i ≤ a → a ≤ b → b ≤ i + m → c + i ≡ a + j → d + i ≡ b + j → slice a b s ≡ slice c d t
slice_agree s t i j m a b c d x e f g h k =
    let u = x.here in
    let v = x.there in
    let p = length-slice a b s (omega arith) in
    let q = length-slice c d t (omega arith) in
    ext_get_or 0 (slice a b s) (slice c d t) (omega arith)
    (λ n l. slice_at s a b n (omega arith) ∙ x.same (a + n) (c + n) (omega arith) (omega arith) (omega arith) ∙ sym (slice_at t c d n (omega arith)))

module _ (s t : List ℕ) (i j m : ℕ) (x : Agree s t i j m) where
  pub runs_move : (p : ℕ → Bool) (a b c d : ℕ) → Runs p s a b → i ≤ a → b ≤ i + m → c + i ≡ a + j → d + i ≡ b + j → (d < length t → p (get_or t d 0) ≡ false) → Runs p t c d
  runs_move p a b c d r h k e f stops =
      let u = r.onward in
      let v = x.there in
      record {
        onward = omega arith;
        inside = omega arith;
        each = λ y g l. let w : (y + i - j) + j ≡ y + i = omega arith in rw (x.same (y + i - j) y (omega arith) (omega arith) (omega arith)) at (r.each (y + i - j) (omega arith) (omega arith));
        stops = stops;
      }

  -- a name or bare token with what ends it behind it,
  word_move : (first rest : Class) → IsWord first rest s i (i + m) → (j + m < length t → in_class rest (get_or t (j + m) 0) ≡ false) → IsWord first rest t j (j + m)
  word_move first rest w stops =
      let r = w.goes_on.onward in
      let v = x.there in
      record {
        inside = omega arith;
        begins = rw (x.same i j (omega arith) (omega arith) (omega arith)) at w.begins;
        goes_on = runs_move (in_class rest) (i + 1) (i + m) (j + 1) (j + m) w.goes_on (omega arith) (omega arith) (omega arith) (omega arith) stops;
      }

  pub name_move : name_at s i ≡ Ok (i + m) → (j + m < length t → in_class NameByte (get_or t (j + m) 0) ≡ false) → name_at t j ≡ Ok (j + m)
  name_move e stops = (name_iff t j (j + m)).1 (word_move NameStart NameByte ((name_iff s i (i + m)).0 e) stops)

  pub bare_move : token_at s i ≡ found i (i + m) (i + m) false → (j + m < length t → in_class TokenByte (get_or t (j + m) 0) ≡ false) → token_at t j ≡ found j (j + m) (j + m) false
  bare_move e stops = (bare_iff t j (j + m)).1 (word_move TokenStart TokenByte ((bare_iff s i (i + m)).0 e) stops)

  -- an integer with no digit behind it,
  pub int_move : (v : ℕ) → int_at s i ≡ Ok (v, i + m) → (j + m < length t → in_class Digit (get_or t (j + m) 0) ≡ false) → int_at t j ≡ Ok (v, j + m)
  unfolding decimal_at
  int_move v e stops =
      let a = x.here in
      let b = x.there in
      let w = (int_iff s i (i + m) v (omega arith)).0 e in
      let h = w.some in
      (int_iff t j (j + m) v (omega arith)).1 (record {
        some = omega arith;
        digits = runs_move (in_class Digit) i (i + m) j (j + m) w.digits (omega arith) (omega arith) (omega arith) (omega arith) stops;
        value = ap decimal (sym (slice_agree s t i j m i (i + m) j (j + m) x (omega arith) (omega arith) (omega arith) (omega arith) (omega arith))) ∙ w.value;
        fits = w.fits;
      })

  -- and a quoted one, with anything behind it: n is where it closes
  pub quoted_move : (n : ℕ) → n + 1 ≡ m → token_at s i ≡ found (i + 1) (i + n) (i + n + 1) true → token_at t j ≡ found (j + 1) (j + n) (j + n + 1) true
  unfolding in_class
  quoted_move n e q =
      let w = (quoted_iff s i (i + n)).0 q in
      let a = w.goes_on.onward in
      let v = x.there in
      let f = x.same i j (omega arith) (omega arith) (omega arith) in
      let g = x.same (i + 1) (j + 1) (omega arith) (omega arith) (omega arith) in
      let h = x.same (i + n) (j + n) (omega arith) (omega arith) (omega arith) in
      (quoted_iff t j (j + n)).1 (record {
        opens = rw f at w.opens;
        first = rw g at w.first;
        goes_on = rw f at (runs_move (in_class (Unquoted (get_or s i 0))) (i + 1 + 1) (i + n) (j + 1 + 1) (j + n) w.goes_on (omega arith) (omega arith) (omega arith) (omega arith) (λ l. no (get_or s i 0) (get_or t (j + n) 0) (sym h ∙ w.closes)));
        closes = rw (f, h) at w.closes;
        inside = omega arith;
      })
    where
      no : (c d : ℕ) → d ≡ c → in_class (Unquoted c) d ≡ false
      no c d e = rw (eq-eqb d c e)
