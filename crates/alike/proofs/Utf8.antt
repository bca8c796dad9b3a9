-- What is shipped is a text: pieces that are texts are one together, and so are bytes below 128. Assumes nothing.
use Rattle.std.specs.Prelude.{Ok, Err, Result}
use Prim.Native.Nat.{ℕ, suc, ◌+◌, ◌-◌, ◌≤◌, ◌<◌}
use mathlib.Core.Path.{◌≡◌, refl, ◌∙◌, ap, ap₂}
use mathlib.Core.List.{List, [], ◌∷◌, ◌++◌}
use mathlib.Core.Bool.{Bool, true, false, ◌||◌}
use mathlib.Core.Logic.{◌⊎◌, inl, inr, ⊎_elim}
use native.Mathlib.Omega.{arith}
use borrow.Author.Tests.{lt-ltb, eqb-true}
use lib.Dec.{eqb}
use lib.ListN.{length, get_or, drop}
use lib.Seq.{slice, get_or-drop}
use Rattle.words.specs.declared.QuoteError.{QuoteError}
use Rattle.scan.specs.declared.Place.{Place}
use Rattle.scan.specs.declared.Class.{Class}
use Rattle.scan.specs.declared.Class.TheVariants.{NameStart, NameByte, TokenStart, TokenByte, Digit}
use Rattle.scan.specs.Scan.{within, in_class, is_eol, is_letter, is_digit}
use Rattle.scan.proofs.Bytes.{le_or_lt, within_true}
use Rattle.whole.specs.Encode.{Scalars, encode, encoded, Text}
use Rattle.whole.proofs.Boundaries.{encoded_append, between, begins_boundary, ascii_behind}
use Rattle.words.specs.declared.QuoteError.TheVariants.{LineInside, BadEscape}
use Rattle.words.specs.Words.{is_quote, name_at, token_at, IsWord}
use Rattle.words.specs.Numbers.{int_at}
use Rattle.words.specs.Strings.{Mode, plain, escape, string, string_at}
use Rattle.words.proofs.Meaning.{name_iff, bare_iff, quoted_iff, int_iff}
use Rattle.alike.proofs.Tokens.{Shape, plain as plain-token, quote, shape}
use Rattle.alike.proofs.Front.{either}
use Rattle.alike.proofs.Moved.{opened, string_lies}

scalars_append : (xs ys : List ℕ) → Scalars xs → Scalars ys → Scalars (xs ++ ys)
scalars_append [] ys a b = b
scalars_append (x ∷ xs) ys a b = (a.0, scalars_append xs ys a.1 b)

pub text_append : (l m : List ℕ) → Text l → Text m → Text (l ++ m)
text_append l m x y =
    record { points = x.points ++ y.points; scalars = scalars_append x.points y.points x.scalars y.scalars; same = encoded_append x.points y.points ∙ ap₂ (λ (a b : List ℕ). a ++ b) x.same y.same }

one : (c : ℕ) → c < 128 → encode c ≡ c ∷ []
unfolding encode
one c h = rw (lt-ltb c 128 h, encode)

pub text_byte : (c : ℕ) → c < 128 → Text (c ∷ [])
unfolding encode encoded
text_byte c h = record { points = c ∷ []; scalars = (inl (omega arith), tt); same = ap (λ (l : List ℕ). l ++ []) (one c h) }

-- letters, digits and the other bytes of words are below 128
letter_low : (c : ℕ) → is_letter c ≡ true → c < 128
unfolding is_letter
letter_low c t = go (either _ _ t)
  where
    go : (within 65 90 c ≡ true) ⊎ (within 97 122 c ≡ true) → c < 128
    go (inl e) = let z = (within_true 65 90 c e).1 in omega arith
    go (inr e) = let z = (within_true 97 122 c e).1 in omega arith

digit_low : (c : ℕ) → is_digit c ≡ true → c < 128
unfolding is_digit
digit_low c t = let z = (within_true 48 57 c t).1 in omega arith

byte_low : (b c : ℕ) → b < 128 → eqb c b ≡ true → c < 128
byte_low b c h t = let z = eqb-true c b t in omega arith

or_low : (a b : Bool) (c : ℕ) → (a ≡ true → c < 128) → (b ≡ true → c < 128) → (a || b) ≡ true → c < 128
or_low a b c f g t = ⊎_elim f g (either a b t)

-- the classes of words
pub data Wordly : Class → Type 0 where
  name_start : Wordly NameStart
  name_byte : Wordly NameByte
  token_start : Wordly TokenStart
  token_byte : Wordly TokenByte
  digit : Wordly Digit

class_low : {k : Class} → Wordly k → (c : ℕ) → in_class k c ≡ true → c < 128
unfolding in_class
class_low name_start c t = or_low _ _ c (or_low _ _ c (letter_low c) (byte_low 95 c (omega arith))) (byte_low 46 c (omega arith)) t
class_low name_byte c t = or_low _ _ c (or_low _ _ c (or_low _ _ c (letter_low c) (byte_low 95 c (omega arith))) (byte_low 46 c (omega arith))) (digit_low c) t
class_low token_start c t = or_low _ _ c (letter_low c) (byte_low 95 c (omega arith)) t
class_low token_byte c t = or_low _ _ c (or_low _ _ c (letter_low c) (byte_low 95 c (omega arith))) (digit_low c) t
class_low digit c t = digit_low c t

quote_low : (c : ℕ) → is_quote c ≡ true → c < 128
unfolding is_quote
quote_low c t = or_low _ _ c (byte_low 34 c (omega arith)) (byte_low 39 c (omega arith)) t

-- the last byte of a string is its quote
string_last : (q : ℕ) (mode : Mode) (l : List ℕ) (i e : ℕ) → string q mode l i ≡ Ok e → (k : ℕ) × (i + k + 1 ≡ e) × (get_or l k 0 ≡ q)
unfolding string
string_last q plain [] i e h = let z : ◌≡◌ {A = ℕ} 0 1 = cc in absurd (omega arith)
string_last q (escape b) [] i e h = let z : ◌≡◌ {A = ℕ} 0 1 = cc in absurd (omega arith)
string_last q plain (c ∷ cs) i e h = go (eqb c q) refl (is_eol c) (eqb c 92) (string_last q plain cs (i + 1) e) (string_last q (escape i) cs (i + 1) e) h
  where
    go : (a : Bool) → eqb c q ≡ a → (b d : Bool) → (string q plain cs (i + 1) ≡ Ok e → (k : ℕ) × (i + 1 + k + 1 ≡ e) × (get_or cs k 0 ≡ q)) → (string q (escape i) cs (i + 1) ≡ Ok e → (k : ℕ) × (i + 1 + k + 1 ≡ e) × (get_or cs k 0 ≡ q))
        → ◌≡◌ {A = Result ℕ QuoteError} (elim a [ true ↦ Ok (i + 1) | false ↦ elim b [ true ↦ Err (LineInside i) | false ↦ elim d [ true ↦ string q (escape i) cs (i + 1) | false ↦ string q plain cs (i + 1) ] ] ]) (Ok e)
        → (k : ℕ) × (i + k + 1 ≡ e) × (get_or (c ∷ cs) k 0 ≡ q)
    go true x b d f g h = let z : i + 1 ≡ e = cc in (0, omega arith, eqb-true c q x)
    go false x true d f g h = let z : ◌≡◌ {A = ℕ} 0 1 = cc in absurd (omega arith)
    go false x false true f g h = let (k, y, w) = g h in (suc k, omega arith, w)
    go false x false false f g h = let (k, y, w) = f h in (suc k, omega arith, w)
string_last q (escape b) (c ∷ cs) i e h = go (is_quote c) (string_last q plain cs (i + 1) e) h
  where
    go : (a : Bool) → (string q plain cs (i + 1) ≡ Ok e → (k : ℕ) × (i + 1 + k + 1 ≡ e) × (get_or cs k 0 ≡ q)) → ◌≡◌ {A = Result ℕ QuoteError} (elim a [ true ↦ string q plain cs (i + 1) | false ↦ Err (BadEscape b) ]) (Ok e) → (k : ℕ) × (i + k + 1 ≡ e) × (get_or (c ∷ cs) k 0 ≡ q)
    go true f h = let (k, y, w) = f h in (suc k, omega arith, w)
    go false f h = let z : ◌≡◌ {A = ℕ} 0 1 = cc in absurd (omega arith)

-- A part of a text whose first and last bytes are below 128 is a text,
module _ (s : List ℕ) (t : Text s) (i e : ℕ) where
  pub ends_text : i < e → e ≤ length s → get_or s i 0 < 128 → get_or s (e - 1) 0 < 128 → Text (slice i e s)
  ends_text h l a b =
      let z : e - 1 + 1 ≡ e = omega arith in
      between s i e (omega arith) (begins_boundary s t i (omega arith) (inl a)) (rw z at (ascii_behind s t (e - 1) (omega arith) b))

  -- so is a word,
  word_text : {first rest : Class} → Wordly first → Wordly rest → IsWord first rest s i e → Text (slice i e s)
  word_text {first} {rest} f r w = go (le_or_lt (e - 1) i)
    where
      a : get_or s i 0 < 128
      a = class_low f _ w.begins

      o : i + 1 ≤ e
      o = w.goes_on.onward

      go : (e - 1 ≤ i) ⊎ (i < e - 1) → Text (slice i e s)
      go (inl h) = let n = o in let z : e - 1 ≡ i = omega arith in ends_text (omega arith) w.goes_on.inside a (rw z a)
      go (inr h) = ends_text (omega arith) w.goes_on.inside a (class_low r _ (w.goes_on.each (e - 1) (omega arith) (omega arith)))

  pub name_text : name_at s i ≡ Ok e → Text (slice i e s)
  name_text h = word_text name_start name_byte ((name_iff s i e).0 h)

  pub int_text : (v : ℕ) → i ≤ length s → int_at s i ≡ Ok (v, e) → Text (slice i e s)
  int_text v h q =
      let w = (int_iff s i e v h).0 q in
      let a = w.some in
      ends_text a w.digits.inside (class_low digit _ (w.digits.each i (omega arith) (omega arith))) (class_low digit _ (w.digits.each (e - 1) (omega arith) (omega arith)))

module _ (s : List ℕ) (t : Text s) (i e : ℕ) where
  pub token_text : (p : Place) (q : Bool) → token_at s i ≡ Ok (p, e, q) → Text (slice i e s)
  token_text p q h = go p e q (shape s i p e q h) h
    where
      go : (p : Place) (d : ℕ) (q : Bool) → Shape i p d q → token_at s i ≡ Ok (p, d, q) → Text (slice i d s)
      go _ _ _ (plain-token to) h = word_text s t i to token_start token_byte ((bare_iff s i to).0 h)
      go _ _ _ (quote to) h =
          let w = (quoted_iff s i to).0 h in
          let a = w.goes_on.onward in
          let b = w.inside in
          let c = quote_low _ w.opens in
          let z : to + 1 - 1 ≡ to = omega arith in
          ends_text s t i (to + 1) (omega arith) (omega arith) c (rw (z, w.closes) c)

  -- and a string.
  pub string_text : string_at s i ≡ Ok e → Text (slice i e s)
  string_text h =
      let o = opened s i e h in
      let l = string_lies s i e h in
      let l0 = l.0 in
      let (k, y, w) = string_last (get_or s i 0) plain (drop (i + 1) s) (i + 1) e o.goes_on in
      let z : i + 1 + k ≡ e - 1 = omega arith in
      let c = quote_low _ o.opens in
      ends_text s t i e (omega arith) l.1 c (rw (rw (get_or-drop (i + 1) s k 0, z) at w) c)
