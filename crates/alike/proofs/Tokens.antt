-- A token that stands in one source stands in any where its bytes do, with what ends a word behind them. Assumes nothing.
use Rattle.std.specs.Prelude.{Option, Some, None, Result, Ok}
use Prim.Native.Nat.{ℕ, ◌+◌, ◌-◌, ◌<◌}
use mathlib.Core.Path.{◌≡◌, refl}
use mathlib.Core.List.{List}
use mathlib.Core.Bool.{Bool, true, false}
use native.Mathlib.Omega.{arith}
use lib.Dec.{leb, eqb}
use lib.ListN.{length, get_or}
use Rattle.scan.proofs.Tuples.{ok_3}
use Rattle.scan.specs.declared.Place.{Place}
use Rattle.scan.specs.declared.Class.TheVariants.{TokenStart, TokenByte, Unquoted}
use Rattle.scan.specs.Scan.{in_class, is_at, run_end_at}
use Rattle.scan.proofs.Bytes.{on_test, told}
use Rattle.words.specs.Words.{word_at, is_quote, closed, quoted_at, bare, token_at, Tokened}
use Rattle.words.proofs.Words.{token_placed}
use Rattle.alike.specs.Like.{Same}
use Rattle.alike.proofs.Agree.{clash, Agree, slice_agree, bare_move, quoted_move}

-- a token that was found is bare, its place all of it, or quoted, its place between the quotes
pub data Shape (i : ℕ) : Place → ℕ → Bool → Type 0 where
  plain : (to : ℕ) → Shape i (record { from = i; to = to }) to false
  quote : (to : ℕ) → Shape i (record { from = i + 1; to = to }) (to + 1) true

pub shape : (s : List ℕ) (i : ℕ) (p : Place) (e : ℕ) (q : Bool) → token_at s i ≡ Ok (p, e, q) → Shape i p e q
unfolding token_at quoted_at closed bare
shape s i p e q =
    on_test Is (leb (length s) i) _ _ (λ f r. absurd (clash cc))
    (λ f. on_test Is (is_quote c) _ _
    (λ t. on_test Is (leb (length s) (i + 1)) _ _ (λ g r. absurd (clash cc))
    (λ g. on_test Is (eqb (get_or s (i + 1) 0) 10) _ _ (λ h r. absurd (clash cc))
    (λ h. on_test Is (is_at c s (run_end_at (in_class (Unquoted c)) s (i + 1 + 1))) _ _ (λ o r. is _ _ _ r (quote _)) (λ o r. absurd (clash cc)))))
    (λ t. word (word_at TokenStart TokenByte s i)))
  where
    c : ℕ
    c = get_or s i 0

    Is : Result (Place × ℕ × Bool) ℕ → Type 0
    Is r = r ≡ Ok (p, e, q) → Shape i p e q

    is : (a : Place) (b : ℕ) (d : Bool) → ◌≡◌ {A = Result (Place × ℕ × Bool) ℕ} (Ok (a, b, d)) (Ok (p, e, q)) → Shape i a b d → Shape i p e q
    is a b d r x =
        let o = ok_3 r in rw (o.0, o.1, o.2) at x

    word : (w : Option ℕ) → Is (bare i w)
    word (Some to) r = is _ _ _ r (plain to)
    word None r = absurd (clash cc)

-- The same token in two sources that agree there, with what ends a word behind it in the second.
pub record Twin (s t : List ℕ) (i j m : ℕ) (p : Place) (q : Bool) : Type 0 where
  pub place : Place
  pub is : token_at t j ≡ Ok (place, j + m, q)
  pub same : Same s t p.from p.to place.from place.to

pub token_move : (s t : List ℕ) (i j m : ℕ) → Agree s t i j m → (p : Place) (q : Bool) → token_at s i ≡ Ok (p, i + m, q) → (j + m < length t → in_class TokenByte (get_or t (j + m) 0) ≡ false) → Twin s t i j m p q
token_move s t i j m x p q e stops = go p (i + m) q (shape s i p (i + m) q e) refl e (told (Tokened s i) e (token_placed s i (token_at s i) refl).1)
  where
    go : (p : Place) (end : ℕ) (q : Bool) → Shape i p end q → end ≡ i + m → token_at s i ≡ Ok (p, end, q) → Tokened s i (Ok (p, end, q)) → Twin s t i j m p q
    go _ _ _ (plain to) f e y =
        let a = y.1 in
        let u = x.here in
        let v = x.there in
        record {
          place = record { from = j; to = j + m };
          is = bare_move s t i j m x (rw f at e) stops;
          same = record { here = (omega arith, omega arith); there = (omega arith, omega arith); bytes = slice_agree s t i j m i to j (j + m) x (omega arith) (omega arith) (omega arith) (omega arith) (omega arith) };
        }
    go _ _ _ (quote to) f e y =
        let a = y.0 in
        let b = y.1 in
        let u = x.here in
        let v = x.there in
        let w : i + (m - 1) ≡ to = omega arith in
        let z : j + (m - 1) + 1 ≡ j + m = omega arith in
        record {
          place = record { from = j + 1; to = j + (m - 1) };
          is = rw z at (quoted_move s t i j m x (m - 1) (omega arith) (rw w e));
          same = record { here = (omega arith, omega arith); there = (omega arith, omega arith); bytes = slice_agree s t i j m (i + 1) to (j + 1) (j + (m - 1)) x (omega arith) (omega arith) (omega arith) (omega arith) (omega arith) };
        }
