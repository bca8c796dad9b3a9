-- The first byte of a word is no spacing and no `%`. Assumes nothing.
use Rattle.std.specs.Prelude.{Ok}
use Prim.Native.Nat.{ℕ, ◌≤◌, ◌<◌}
use mathlib.Core.Path.{◌≡◌, refl}
use mathlib.Core.List.{List, ◌∷◌}
use mathlib.Core.Bool.{Bool, true, false, ◌||◌, ◌&&◌, false≢true}
use mathlib.Core.Logic.{◌⊎◌, inl, inr}
use native.Mathlib.Omega.{arith}
use lib.Dec.{leb, eqb}
use lib.ListN.{get_or, drop}
use borrow.Author.Tests.{eqb-true, ne_eqb, lt-leb}
use Rattle.scan.specs.declared.Place.{Place}
use Rattle.scan.specs.declared.Class.TheVariants.{NameStart, TokenStart}
use Rattle.scan.specs.Scan.{in_class, is_eol, is_letter}
use Rattle.scan.proofs.Bytes.{within_true, drop_byte, drop_below}
use Rattle.spacing.specs.Spacing.{is_blank}
use Rattle.words.specs.Words.{is_quote, name_at, token_at}
use Rattle.words.proofs.Meaning.{name_iff, bare_iff, quoted_iff}
use Rattle.lists.specs.Lists.{ends}
use Rattle.alike.proofs.Solid.{Solid, solid_byte}
use Rattle.alike.proofs.Tokens.{Shape, plain, quote, shape}

-- a byte that a word may begin with
pub record Front (c : ℕ) : Type 0 where
  pub high : 33 < c
  pub percent : c ≡ 37 → ⊥
  pub slash : c ≡ 47 → ⊥

pub either : (a b : Bool) → (a || b) ≡ true → (a ≡ true) ⊎ (b ≡ true)
either true b e = inl refl
either false true e = inr refl
either false false e = absurd (false≢true e)

letter_high : (c : ℕ) → is_letter c ≡ true → 65 ≤ c
unfolding is_letter
letter_high c t = go (either _ _ t)
  where
    go : ((leb 65 c && leb c 90) ≡ true) ⊎ ((leb 97 c && leb c 122) ≡ true) → 65 ≤ c
    go (inl e) = (within_true 65 90 c e).0
    go (inr e) = let z = (within_true 97 122 c e).0 in omega arith

token_front : (c : ℕ) → in_class TokenStart c ≡ true → Front c
unfolding in_class
token_front c t = go (either _ _ t)
  where
    go : (is_letter c ≡ true) ⊎ (eqb c 95 ≡ true) → Front c
    go (inl e) = let z = letter_high c e in record { high = omega arith; percent = λ q. omega arith; slash = λ q. omega arith }
    go (inr e) = let z = eqb-true c 95 e in record { high = omega arith; percent = λ q. omega arith; slash = λ q. omega arith }

name_front : (c : ℕ) → in_class NameStart c ≡ true → Front c
unfolding in_class
name_front c t = go (either _ _ t)
  where
    go : ((is_letter c || eqb c 95) ≡ true) ⊎ (eqb c 46 ≡ true) → Front c
    go (inl e) = token_front c e
    go (inr e) = let z = eqb-true c 46 e in record { high = omega arith; percent = λ q. omega arith; slash = λ q. omega arith }

quote_front : (c : ℕ) → is_quote c ≡ true → Front c
unfolding is_quote
quote_front c t = go (either _ _ t)
  where
    go : (eqb c 34 ≡ true) ⊎ (eqb c 39 ≡ true) → Front c
    go (inl e) = let z = eqb-true c 34 e in record { high = omega arith; percent = λ q. omega arith; slash = λ q. omega arith }
    go (inr e) = let z = eqb-true c 39 e in record { high = omega arith; percent = λ q. omega arith; slash = λ q. omega arith }

-- a token, a name
pub token_begins : (s : List ℕ) (i e : ℕ) (p : Place) (q : Bool) → token_at s i ≡ Ok (p, e, q) → Front (get_or s i 0)
token_begins s i e p q h = go p e q (shape s i p e q h) h
  where
    go : (p : Place) (e : ℕ) (q : Bool) → Shape i p e q → token_at s i ≡ Ok (p, e, q) → Front (get_or s i 0)
    go _ _ _ (plain to) h = token_front _ ((bare_iff s i to).0 h).begins
    go _ _ _ (quote to) h = quote_front _ ((quoted_iff s i to).0 h).opens

pub name_begins : (s : List ℕ) (i e : ℕ) → name_at s i ≡ Ok e → Front (get_or s i 0)
name_begins s i e h = name_front _ ((name_iff s i e).0 h).begins

-- is no spacing, and ends no list
pub front_solid : (c : ℕ) (cs : List ℕ) → Front c → Solid (c ∷ cs)
unfolding is_blank is_eol
front_solid c cs f =
    let h = f.high in
    solid_byte c cs (rw (ne_eqb c 9 (λ e. omega arith), ne_eqb c 32 (λ e. omega arith))) (rw (ne_eqb c 10 (λ e. omega arith), ne_eqb c 13 (λ e. omega arith))) (ne_eqb c 47 f.slash)

pub front_goes : (s : List ℕ) (i c : ℕ) (cs : List ℕ) → drop i s ≡ c ∷ cs → Front c → ends s i ≡ false
unfolding ends
front_goes s i c cs q f = rw (lt-leb _ _ (drop_below s i c cs q), drop_byte s i c cs q, ends) (ne_eqb c 37 f.percent)

-- while `%` is, and is no spacing either
pub percent_solid : (cs : List ℕ) → Solid (37 ∷ cs)
unfolding is_blank is_eol
percent_solid cs = solid_byte 37 cs refl refl refl

pub percent_ends : (s : List ℕ) (i : ℕ) (cs : List ℕ) → drop i s ≡ 37 ∷ cs → ends s i ≡ true
unfolding ends
percent_ends s i cs q = rw (lt-leb _ _ (drop_below s i 37 cs q), drop_byte s i 37 cs q, ends)
