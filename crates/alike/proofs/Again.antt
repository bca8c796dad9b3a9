-- A word whose bytes stand in another source, with what ends a word behind them, is read there as the word it was. Assumes nothing.
use Rattle.std.specs.Prelude.{Ok}
use Prim.Native.Nat.{ℕ, zero, suc, ◌+◌, ◌-◌, ◌≤◌, ◌<◌}
use mathlib.Core.Path.{◌≡◌, refl, sym, ◌∙◌, ap, ap₂}
use mathlib.Core.List.{List, [], ◌∷◌, ◌++◌}
use mathlib.Core.Bool.{Bool, true, false}
use native.Mathlib.Omega.{arith}
use native.Mathlib.Nat.{zero-add, suc-add}
use lib.ListN.{length, get_or, drop, take, length-drop, take-append-drop}
use lib.Seq.{slice, length-slice, drop-drop, drop-append_seam, slice-cons, take-nil}
use Rattle.scan.specs.declared.Place.{Place}
use Rattle.scan.specs.declared.Class.TheVariants.{NameByte, TokenByte}
use Rattle.scan.specs.Scan.{in_class}
use Rattle.scan.specs.Loop.{Turn, more, stop, turns}
use Rattle.scan.proofs.Bytes.{told, drop_byte}
use Rattle.words.specs.Words.{token_at, Tokened}
use Rattle.words.proofs.Words.{token_placed}
use Rattle.grammar.specs.State.{Gapped, gap_at}
use Rattle.grammar.proofs.Kept.{gapped}
use Rattle.alike.specs.Like.{Same}
use Rattle.alike.specs.Stands.{TokenAt, Breaks}
use Rattle.alike.proofs.Agree.{agree_slice, slice_agree}
use Rattle.alike.proofs.Tokens.{token_move}
use Rattle.alike.proofs.Front.{Front, token_begins}

-- what ends a word ends it where it stands
module _ (t : List ℕ) (k : ℕ) where
  pub breaks_token : (r : List ℕ) → drop k t ≡ r → Breaks r → k < length t → in_class TokenByte (get_or t k 0) ≡ false
  breaks_token [] q b h = let n = length-drop k t in let m : length (drop k t) ≡ 0 = ap length q in absurd (omega arith)
  breaks_token (c ∷ cs) q b h = rw (drop_byte t k c cs q) b.1

  pub breaks_name : (r : List ℕ) → drop k t ≡ r → Breaks r → k < length t → in_class NameByte (get_or t k 0) ≡ false
  breaks_name [] q b h = let n = length-drop k t in let m : length (drop k t) ≡ 0 = ap length q in absurd (omega arith)
  breaks_name (c ∷ cs) q b h = rw (drop_byte t k c cs q) b.0

-- what stands behind a part
pub behind : (t : List ℕ) (j : ℕ) (x r : List ℕ) → drop j t ≡ x ++ r → drop (j + length x) t ≡ r
behind t j x r q = sym (drop-drop (length x) j t) ∙ ap (drop (length x)) q ∙ drop-append_seam x r

-- the bytes left are a part and what is behind it
pub slice_take : (a n : ℕ) (s : List ℕ) → slice a (a + n) s ≡ take n (drop a s)
slice_take zero n s = rw (zero-add n)
slice_take (suc a) n [] = rw (suc-add a n) (sym (take-nil n))
slice_take (suc a) n (x ∷ xs) = rw (suc-add a n) (slice_take a n xs)

pub parts : (s : List ℕ) (i e : ℕ) → i ≤ e → drop i s ≡ slice i e s ++ drop e s
parts s i e h =
    let z : i + (e - i) ≡ e = omega arith in
    let a : slice i e s ≡ take (e - i) (drop i s) = rw z at (slice_take i (e - i) s) in
    let b : drop e s ≡ drop (e - i) (drop i s) = sym (rw z at (drop-drop (e - i) i s)) in
    sym (take-append-drop (e - i) (drop i s)) ∙ ap₂ (λ (x y : List ℕ). x ++ y) (sym a) (sym b)

-- where a token lies
pub token_lies : (s : List ℕ) (i e : ℕ) (x : List ℕ) (w : TokenAt s i e x) → Tokened s i (Ok (w.place, e, w.quoted))
token_lies s i e x w = told (Tokened s i) w.is (token_placed s i (token_at s i) refl).1

-- the bytes of a token begin with its first
pub spelled_front : (s : List ℕ) (i e : ℕ) (x : List ℕ) → TokenAt s i e x → (c : ℕ) × (cs : List ℕ) × (x ≡ c ∷ cs) × Front c
spelled_front s i e x w =
    let y = token_lies s i e x w in
    let a = y.0 in
    let b = y.1 in
    let c = y.2 in
    let d = y.3 in
    (get_or s i 0, slice (suc i) e s, sym w.spelled ∙ slice-cons i e s 0 (omega arith) d, token_begins s i e w.place w.quoted w.is)

-- a token is read again as the token it was
module _ (src out : List ℕ) where
  pub record Again (i e j : ℕ) (x : List ℕ) (w : TokenAt src i e x) : Type 0 where
    pub there : TokenAt out j (j + length x) x
    pub same : Same src out w.place.from w.place.to there.place.from there.place.to

  pub word_again : (i e j : ℕ) (x r : List ℕ) (w : TokenAt src i e x) → drop j out ≡ x ++ r → j ≤ length out → Breaks r → Again i e j x w
  word_again i e j x r w q h b =
      let y = token_lies src i e x w in
      let a = y.0 in
      let c = y.1 in
      let d = y.2 in
      let f = y.3 in
      let n : length x ≡ e - i = sym (ap length w.spelled) ∙ length-slice i e src f in
      let z : i + length x ≡ e = omega arith in
      let g = agree_slice src out i (length x) j r (omega arith) (rw (z, w.spelled) q) h in
      let t = token_move src out i j (length x) g w.place w.quoted (rw z w.is) (λ l. breaks_token out (j + length x) r (behind out j x r q) b l) in
      record {
        there = record { place = t.place; quoted = w.quoted; is = t.is; spelled = sym (slice_agree src out i j (length x) i e j (j + length x) g (omega arith) (omega arith) (omega arith) (omega arith) (omega arith)) ∙ w.spelled };
        same = t.same;
      }

-- a token and the spacing behind it go onward
pub further : (kind : ℕ) (s : List ℕ) (i e m n : ℕ) (p : Place) (q : Bool) → token_at s i ≡ Ok (p, e, q) → gap_at kind true s e ≡ Ok (m, n) → (i < m) × (m ≤ length s)
further kind s i e m n p q h g =
    let y : Tokened s i (Ok (p, e, q)) = told (Tokened s i) h (token_placed s i (token_at s i) refl).1 in
    let z : Gapped s e (Ok (m, n)) = told (Gapped s e) g (gapped kind true s e y.3) in
    let a = y.0 in
    let b = y.1 in
    let c = y.2 in
    let d = z.0 in
    (omega arith, z.1)

-- a loop by its first turn
pub turns_more : {X : Type 0} (f : X → Turn X) (n : ℕ) (x y : X) → f x ≡ more y → turns (suc n) f x ≡ turns n f y
unfolding turns
turns_more f n x y e = rw (e, turns)

pub turns_stop : {X : Type 0} (f : X → Turn X) (n : ℕ) (x y : X) → f x ≡ stop y → turns (suc n) f x ≡ y
unfolding turns
turns_stop f n x y e = rw (e, turns)
