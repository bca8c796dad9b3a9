-- Strings and texts to a single colon whose bytes stand in another source are read there as they were. Assumes nothing.
use Rattle.std.specs.Prelude.{Result, Ok}
use Prim.Native.Nat.{ℕ, suc, ◌+◌, ◌-◌, ◌≤◌, ◌<◌}
use mathlib.Core.Path.{◌≡◌, refl, sym, ◌∙◌, ap, ap₂}
use mathlib.Core.List.{List, [], ◌∷◌, ◌++◌, append_assoc}
use mathlib.Core.Bool.{true}
use native.Mathlib.Omega.{arith}
use native.Mathlib.Numerals.{add-one}
use lib.Dec.{leb}
use lib.ListN.{length, get_or, drop, take}
use lib.Seq.{slice, slice-cons, get_or-drop, take-suc}
use borrow.Author.Tests.{leb-false, lt-leb}
use Rattle.scan.proofs.Bytes.{told, on_test, drop_next, drop_byte, drop_below}
use Rattle.whole.specs.Encode.{Text}
use Rattle.trim.specs.Trim.{trimmed}
use Rattle.words.specs.declared.QuoteError.{QuoteError}
use Rattle.words.specs.Words.{is_quote}
use Rattle.words.specs.Strings.{plain, string, string_from, string_at, Stringed}
use Rattle.words.proofs.Strings.{string_placed}
use Rattle.texts.specs.Colon.{plain as text, single, single_from, single_at, Singled}
use Rattle.texts.proofs.Laws.{singles}
use Rattle.alike.specs.Like.{Same}
use Rattle.alike.proofs.Agree.{agree_slice}
use Rattle.alike.proofs.Texts.{string_move, NoColon, colon_move, trim_move}
use Rattle.alike.proofs.Again.{slice_take}

part_is : (s : List ℕ) (a n e : ℕ) → a + n ≡ e → slice a e s ≡ take n (drop a s)
part_is s a n e z = rw z at (slice_take a n s)

-- a string: its quote, and what stands behind that
pub record Opened (s : List ℕ) (i e : ℕ) : Type 0 where
  pub inside : i < length s
  pub opens : is_quote (get_or s i 0) ≡ true
  pub goes_on : string (get_or s i 0) plain (drop (i + 1) s) (i + 1) ≡ Ok e

pub opened : (s : List ℕ) (i e : ℕ) → string_at s i ≡ Ok e → Opened s i e
unfolding string_at string_from
opened s i e =
    on_test Is (leb (length s) i) _ _ (λ f h. let z : ◌≡◌ {A = ℕ} 0 1 = cc in absurd (omega arith))
    (λ f. on_test Is (is_quote (get_or s i 0)) _ _ (λ o h. record { inside = leb-false _ _ f; opens = o; goes_on = h }) (λ o h. let z : ◌≡◌ {A = ℕ} 0 1 = cc in absurd (omega arith)))
  where
    Is : Result ℕ QuoteError → Type 0
    Is r = r ≡ Ok e → Opened s i e

pub string_lies : (s : List ℕ) (i e : ℕ) → string_at s i ≡ Ok e → (i + 1 < e) × (e ≤ length s)
string_lies s i e h = told (Stringed s i) h (string_placed s i (string_at s i) refl).1

pub string_again : (src out : List ℕ) (i e j : ℕ) (r : List ℕ) → string_at src i ≡ Ok e → drop j out ≡ slice i e src ++ r → string_at out j ≡ Ok (j + (e - i))
unfolding string_at string_from
string_again src out i e j r h q =
    let o = opened src i e h in
    let l = string_lies src i e h in
    let l0 = l.0 in
    let l1 = l.1 in
    let c = get_or src i 0 in
    let m = string_move c plain (drop (i + 1) src) (i + 1) e o.goes_on in
    let n = m.ends in
    let z : i + 1 + m.size ≡ e = sym m.ends in
    let p : slice i e src ≡ c ∷ take m.size (drop (i + 1) src) = slice-cons i e src 0 (omega arith) l1 ∙ ap (λ (y : List ℕ). c ∷ y) (ap (λ (k : ℕ). slice k e src) (sym (add-one i)) ∙ part_is src (i + 1) m.size e z) in
    let q' : drop j out ≡ c ∷ (take m.size (drop (i + 1) src) ++ r) = q ∙ ap (λ (y : List ℕ). y ++ r) p in
    let d = drop_next out j c (take m.size (drop (i + 1) src) ++ r) q' in
    let k : j + 1 + m.size ≡ j + (e - i) = omega arith in
    rw (lt-leb (length out) j (drop_below out j c _ q'), drop_byte out j c _ q', o.opens, string_at, drop_byte out j c _ q', d) (m.moves plain tt r (j + 1) ∙ ap (λ (y : ℕ). Ok y) k)

-- a text to a single colon, with what is no colon behind it
pub colon_lies : (s : List ℕ) (i e n : ℕ) → i ≤ length s → single_at s i ≡ Ok (e, n) → (i ≤ e) × (e < length s) × (get_or s e 0 ≡ 58)
colon_lies s i e n h q = let x : Singled s i (Ok (e, n)) = told (Singled s i) q (singles s i h) in let a = x.0 in (omega arith, x.1, x.2)

pub colon_again : (src out : List ℕ) (i e n j : ℕ) (r : List ℕ) → i ≤ length src → single_at src i ≡ Ok (e, n) → drop j out ≡ slice i e src ++ (58 ∷ r) → NoColon r → (m : ℕ) × (single_at out j ≡ Ok (j + (e - i), m))
unfolding single_from
colon_again src out i e n j r h s q x =
    let l = colon_lies src i e n h s in
    let l0 = l.0 in
    let m = colon_move text (drop i src) i 0 e n s in
    let z = m.ends in
    let k : m.size ≡ e - i = omega arith in
    let b : i + m.size ≡ e = omega arith in
    let c : get_or (drop i src) m.size 0 ≡ 58 = get_or-drop i src m.size 0 ∙ rw b l.2 in
    let p : take (suc m.size) (drop i src) ≡ slice i e src ++ (58 ∷ []) = take-suc (drop i src) m.size 0 m.inside ∙ ap₂ (λ (y : List ℕ) (d : ℕ). y ++ (d ∷ [])) (sym (part_is src i m.size e b)) c in
    let t : drop j out ≡ take (suc m.size) (drop i src) ++ r = q ∙ sym (append_assoc (slice i e src) (58 ∷ []) r) ∙ ap (λ (y : List ℕ). y ++ r) (sym p) in
    let (v, w) = m.moves r x j 0 in
    (v, ap (λ (y : List ℕ). single text y j 0) t ∙ w ∙ ap (λ (y : ℕ). Ok (y, v)) (ap (λ (y : ℕ). j + y) k))

-- and its trimmed part holds the same bytes
pub colon_same : (src out : List ℕ) (i e j : ℕ) (r : List ℕ) → i ≤ e → e ≤ length src → j ≤ length out → drop j out ≡ slice i e src ++ r → Text (slice i e src)
    → Same src out (trimmed src i e).from (trimmed src i e).to (trimmed out j (j + (e - i))).from (trimmed out j (j + (e - i))).to
colon_same src out i e j r a b c q x =
    let z : i + (e - i) ≡ e = omega arith in
    let g = agree_slice src out i (e - i) j r (rw z b) (rw z q) c in
    rw z at (trim_move src out i j (e - i) g (rw z x))
