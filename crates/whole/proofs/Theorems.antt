-- The check accepts exactly the octets of texts, and where it refuses it gives the end of the longest beginning that is such. Assumes nothing.
use Rattle.std.specs.Prelude.{Option, Some, None, Result, Ok, Err}
use Prim.Native.Nat.{ℕ, zero, suc, ◌+◌, ◌-◌, ◌≤◌, ◌<◌}
use mathlib.Core.Path.{◌≡◌, refl, sym, ◌∙◌, ap}
use mathlib.Core.List.{List, [], ◌∷◌, ◌++◌, append_assoc, append-nil}
use mathlib.Core.Logic.{◌↔◌}
use native.Mathlib.Omega.{arith}
use lib.ListN.{length, take, drop, length-append, take-append-drop}
use lib.Seq.{drop-nil, drop-append_seam, take_at, take-length, length-take-le}
use Rattle.utf8.specs.Utf8.{decode}
use Rattle.utf8.proofs.Utf8.{decode_past}
use Rattle.whole.specs.Whole.{check, check_at, Below}
use Rattle.whole.specs.Encode.{Scalars, encode, encoded, Text, Longest}
use Rattle.whole.proofs.Laws.{check_point}
use Rattle.whole.proofs.Encode.{decode_encode, decode_front}

-- the octets of a text are passed, whatever stands behind them
pub passes : (cs : List ℕ) → Scalars cs → (l : List ℕ) (i : ℕ) → check 0 (encoded cs ++ l) i ≡ check 0 l (i + length (encoded cs))
unfolding encoded
passes [] s l i = let e : i + 0 ≡ i = omega arith in rw e
passes (c ∷ cs) s l i =
    let j = i + length (encode c) in
    let d = decode_encode c (encoded cs ++ l) i s.0 in
    let e = check_point (encode c ++ (encoded cs ++ l)) i c j d in
    let f : j - i ≡ length (encode c) = omega arith in
    let g = rw (f, drop-append_seam (encode c) (encoded cs ++ l)) at e in
    let n : i + length (encode c ++ encoded cs) ≡ j + length (encoded cs) = omega (arith, length-append (encode c) (encoded cs)) in
    rw (append_assoc (encode c) (encoded cs) l, n) (g ∙ passes cs s.1 l j)

-- where the check stops: behind the octets of a text, at the end or in front of a byte
abbrev Ends : Result (Unit {0}) ℕ → List ℕ → ℕ → Type 0
Ends (Ok _) rest i = rest ≡ []
Ends (Err p) rest i = (p ≡ i) × (0 < length rest)

record Stop (l : List ℕ) (i : ℕ) (r : Result (Unit {0}) ℕ) : Type 0 where
  points : List ℕ
  scalars : Scalars points
  rest : List ℕ
  same : l ≡ encoded points ++ rest
  ends : Ends r rest (i + length (encoded points))

-- one more code point in front
ahead : (l : List ℕ) (i p j : ℕ) (r : Result (Unit {0}) ℕ) → decode l i ≡ Some (p, j) → Stop (drop (j - i) l) j r → Stop l i r
unfolding encoded
ahead l i p j r e s =
    let f = decode_front l i p j e in
    let g = f.end in
    let n : j - i ≡ length (encode p) = omega arith in
    let x : drop (j - i) l ≡ f.rest = rw n (ap (drop (length (encode p))) f.same ∙ drop-append_seam (encode p) f.rest) in
    let y : f.rest ≡ encoded s.points ++ s.rest = sym x ∙ s.same in
    let m : j + length (encoded s.points) ≡ i + length (encode p ++ encoded s.points) = omega (arith, length-append (encode p) (encoded s.points)) in
    record {
      points = p ∷ s.points;
      scalars = (f.scalar, s.scalars);
      rest = s.rest;
      same = f.same ∙ (ap (◌++◌ (encode p)) y ∙ sym (append_assoc (encode p) (encoded s.points) s.rest));
      ends = rw m at s.ends;
    }

stop : (k : ℕ) (l : List ℕ) (i : ℕ) → Stop (drop k l) (i + k) (check k l i)
unfolding check encoded
stop k [] i = rw (drop-nil k) (record { points = []; scalars = tt; rest = []; same = refl; ends = refl })
stop zero (a ∷ bs) i = go (λ k. stop k bs (i + 1)) (decode (a ∷ bs) i) refl
  where
    go : ((k : ℕ) → Stop (drop k bs) (i + 1 + k) (check k bs (i + 1))) → (d : Option (ℕ × ℕ)) → decode (a ∷ bs) i ≡ d → Stop (a ∷ bs) (i + 0) (elim d [ Some (p, j) ↦ check (j - (i + 1)) bs (i + 1) | None ↦ Err i ])
    go ih (Some (p, j)) e =
        let h = decode_past (a ∷ bs) i p j e in
        let m : i + 1 + (j - (i + 1)) ≡ j = omega arith in
        let n : i + 0 ≡ i = omega arith in
        let o : j - i ≡ suc (j - (i + 1)) = omega arith in
        rw n (ahead (a ∷ bs) i p j _ e (rw o (rw m at (ih (j - (i + 1))))))
    go ih None e = record { points = []; scalars = tt; rest = a ∷ bs; same = refl; ends = (omega arith, omega arith) }
stop (suc k) (a ∷ bs) i = let e : i + 1 + k ≡ i + suc k = omega arith in rw e at (stop k bs (i + 1))

behind : (l : List ℕ) (i p : ℕ) → check 0 l i ≡ Err p → i ≤ p
behind l i p e = let x = rw e at (stop 0 l i) in let h = x.ends.0 in omega arith

module _ (s : List ℕ) where
  stop_all : Stop s 0 (check_at s 0)
  unfolding check_at
  stop_all = stop 0 s 0

  passed_all : (cs rest : List ℕ) → Scalars cs → encoded cs ++ rest ≡ s → check_at s 0 ≡ check 0 rest (length (encoded cs))
  unfolding check_at
  passed_all cs rest h e = let n : 0 + length (encoded cs) ≡ length (encoded cs) = omega arith in rw (e, n) at (passes cs h rest 0)

  -- (c) A source is accepted exactly when it is the octets of a text.
  pub good_text : check_at s 0 ≡ Ok tt → Text s
  good_text e =
      let x = rw e at stop_all in
      record { points = x.points; scalars = x.scalars; same = sym (x.same ∙ (ap (◌++◌ (encoded x.points)) x.ends ∙ append-nil (encoded x.points))) }

  pub text_good : Text s → check_at s 0 ≡ Ok tt
  unfolding check
  text_good t = passed_all t.points [] t.scalars (append-nil (encoded t.points) ∙ t.same)

  pub good_iff : (check_at s 0 ≡ Ok tt) ↔ Text s
  good_iff = (good_text, text_good)

  -- (d) Where it is refused, the place given is the end of the longest beginning that is the octets of a text.
  pub bad_longest : (p : ℕ) → check_at s 0 ≡ Err p → Longest s p
  bad_longest p e = record { text = record { points = x.points; scalars = x.scalars; same = sym front }; short = let h = x.ends.1 in omega (arith, size); most = most }
    where
      x : Stop s 0 (Err p)
      x = rw e at stop_all

      place : length (encoded x.points) ≡ p
      place = let h = x.ends.0 in omega arith

      front : take p s ≡ encoded x.points
      front = ap (take p) x.same ∙ take_at (encoded x.points) x.rest p place

      size : length s ≡ p + length x.rest
      size = ap length x.same ∙ (length-append (encoded x.points) x.rest ∙ ap (λ n. n + length x.rest) place)

      most : (q : ℕ) → q ≤ length s → Text (take q s) → q ≤ p
      most q h t =
          let n : length (encoded t.points) ≡ q = ap length t.same ∙ length-take-le q s h in
          let f : encoded t.points ++ drop q s ≡ s = ap (λ l. l ++ drop q s) t.same ∙ take-append-drop q s in
          let g : check 0 (drop q s) q ≡ Err p = rw n at (sym (passed_all t.points (drop q s) t.scalars f) ∙ e) in
          behind (drop q s) q p g

  -- the place is that of one of the source's bytes
  pub check_inside : Below (length s) (check_at s 0)
  check_inside = go (check_at s 0) refl
    where
      go : (r : Result (Unit {0}) ℕ) → check_at s 0 ≡ r → Below (length s) r
      go (Ok _) e = tt
      go (Err p) e = (bad_longest p e).short

  pub longest_bad : (p : ℕ) → Longest s p → check_at s 0 ≡ Err p
  longest_bad p m = go (check_at s 0) refl
    where
      go : (r : Result (Unit {0}) ℕ) → check_at s 0 ≡ r → check_at s 0 ≡ Err p
      go (Ok _) e =
          let h : length s ≤ p = m.most (length s) (omega arith) (rw (take-length s) (good_text e)) in
          let k = m.short in
          absurd (omega arith)
      go (Err q) e =
          let x = bad_longest q e in
          let h : q ≤ p = m.most q (let k = x.short in omega arith) x.text in
          let k : p ≤ q = x.most p (let k = m.short in omega arith) m.text in
          let f : q ≡ p = omega arith in
          e ∙ ap Err f

  pub bad_iff : (p : ℕ) → (check_at s 0 ≡ Err p) ↔ Longest s p
  bad_iff p = (bad_longest p, longest_bad p)
