-- Two loops over the same words, in step: what holds of two turns holds of the loops. Assumes nothing.
use Rattle.std.specs.Prelude.{Ok}
use Prim.Native.Nat.{ℕ, zero, suc, ◌-◌, ◌<◌}
use mathlib.Core.Path.{◌≡◌, refl}
use mathlib.Core.List.{List}
use mathlib.Core.Bool.{Bool, true, false}
use native.Mathlib.Omega.{arith}
use lib.ListN.{length}
use Rattle.scan.specs.Loop.{Turn, more, stop, turns}
use Rattle.scan.proofs.Bytes.{told}
use Rattle.grammar.specs.declared.Answer.{Answer}
use Rattle.grammar.specs.declared.Answer.TheVariants.{Going}
use Rattle.grammar.specs.State.{gap_at}
use Rattle.lists.specs.declared.WordList.{WordList}
use Rattle.lists.specs.declared.WordList.TheVariants.{TokenList}
use Rattle.lists.specs.Lists.{ends}
use Rattle.alike.proofs.Again.{turns_more, turns_stop}
use Rattle.printed.specs.Stands.{Words2, Tokens2, Pairs, none, pair, Ends, Row2, end2, more2}
use Rattle.printed.proofs.Words.{word_here, word_there, word_further}

-- what holds of two outcomes holds of what they are told to be
pub told_both : {X : Type 0} (P : X → X → Type 0) {x y a b : X} → x ≡ y → a ≡ b → P y b → P x a
told_both P e f p = rw (e, f) p

module _ {X : Type 0} (at : X → ℕ) (answer : X → Answer) (I : X → X → Type 0) where
  -- a turn that stops goes on behind the loop
  abbrev pub Goes : Turn X → Type 0
  Goes (more y) = Unit {0}
  Goes (stop y) = answer y ≡ Going

  -- two turns that stop or do not, come to stand at m and p, and keep what holds of two outcomes
  pub data Turned (m p : ℕ) : Bool → Turn X → Turn X → Type 0 where
    on : (y w : X) → at y ≡ m → at w ≡ p → I y w → Turned m p false (more y) (more w)
    halt : (y w : X) → at y ≡ m → at w ≡ p → I y w → Turned m p true (stop y) (stop w)

  -- where two loops come to their ends
  pub record Ended (k l : ℕ) (x y : X) : Type 0 where
    pub here : at x ≡ k
    pub there : at y ≡ l
    pub kept : I x y

  module _ (f g : X → Turn X) where
    -- the first turn of a loop that goes on
    first : (n : ℕ) (o : X) → answer (turns (suc n) f o) ≡ Going → Goes (f o)
    first n o h = go (f o) refl
      where
        go : (t : Turn X) → f o ≡ t → Goes t
        go (more y) e = tt
        go (stop y) e = told (λ (x : X). answer x ≡ Going) (turns_stop f n o y e) h

    -- both stop,
    stopped : (n m : ℕ) (o z : X) (k l : ℕ) → Turned k l true (f o) (g z) → Ended k l (turns (suc n) f o) (turns (suc m) g z)
    stopped n m o z k l x = go (f o) (g z) refl refl true x refl
      where
        go : (t r : Turn X) → f o ≡ t → g z ≡ r → (b : Bool) → Turned k l b t r → b ≡ true → Ended k l (turns (suc n) f o) (turns (suc m) g z)
        go _ _ p q _ (on y w a b i) e = let c : ◌≡◌ {A = ℕ} 0 1 = cc in absurd (omega arith)
        go _ _ p q _ (halt y w a b i) e = rw (turns_stop f n o y p, turns_stop g m z w q) (record { here = a; there = b; kept = i })

    -- or both go on, and then come to their ends.
    onward : (n m : ℕ) (o z : X) (u v k l : ℕ) → Turned u v false (f o) (g z) → answer (turns (suc n) f o) ≡ Going
        → ((y w : X) → at y ≡ u → at w ≡ v → I y w → answer (turns n f y) ≡ Going → Ended k l (turns n f y) (turns m g w)) → Ended k l (turns (suc n) f o) (turns (suc m) g z)
    onward n m o z u v k l x h rest = go (f o) (g z) refl refl false x refl
      where
        go : (t r : Turn X) → f o ≡ t → g z ≡ r → (b : Bool) → Turned u v b t r → b ≡ false → Ended k l (turns (suc n) f o) (turns (suc m) g z)
        go _ _ p q _ (halt y w a b i) e = let c : ◌≡◌ {A = ℕ} 0 1 = cc in absurd (omega arith)
        go _ _ p q _ (on y w a b i) e = rw (turns_more f n o y p, turns_more g m z w q) (rest y w a b i (rw (turns_more f n o y p) at h))

    -- lists that run to the next `%`
    module _ (what : WordList) (kind : ℕ) (src out : List ℕ) (over : (o z : X) → I o z → ends src (at o) ≡ true → ends out (at z) ≡ true → Turned (at o) (at z) true (f o) (g z))
        (item : (o z : X) (e h m n p q : ℕ) (x : List ℕ) → I o z → ends src (at o) ≡ false → ends out (at z) ≡ false → Words2 what src out (at o) e (at z) h x
        → gap_at kind true src e ≡ Ok (m, n) → gap_at kind true out h ≡ Ok (p, q) → Goes (f o) → Turned m p false (f o) (g z)) where
      pub list_runs : (n m : ℕ) (o z : X) (k l : ℕ) (xs : List (List ℕ)) → Pairs what kind src out (at o) (at z) k l xs → length src - at o < n → length out - at z < m → I o z
          → answer (turns n f o) ≡ Going → Ended k l (turns n f o) (turns m g z)
      list_runs zero m o z k l xs w a b i h = absurd (omega arith)
      list_runs (suc n) zero o z k l xs w a b i h = absurd (omega arith)
      list_runs (suc n) (suc m) o z k l xs (none c d) a b i h = stopped n m o z (at o) (at z) (over o z i c d)
      list_runs (suc n) (suc m) o z k l xs (pair {m = u} {n = c} {o = v} {p = d} {x = x} {xs = ys} e t p q w g1 g2 rest) a b i h =
          let near = word_further what kind src (at o) e u c x (word_here what src out (at o) e (at z) t x w) g1 in
          let close = word_further what kind out (at z) t v d x (word_there what src out (at o) e (at z) t x w) g2 in
          let n1 = near.0 in
          let n2 = near.1 in
          let c1 = close.0 in
          let c2 = close.1 in
          onward n m o z u v k l (item o z e t u c v d x i p q w g1 g2 (first n o h)) h
          (λ y r s1 s2 j h'. list_runs n m y r k l ys (rw (s1, s2) rest) (omega arith) (omega arith) j h')

    -- lists that end with their line
    module _ (kind : ℕ) (src out : List ℕ)
        (item : (o z : X) (e h m n p q : ℕ) (x : List ℕ) → I o z → Tokens2 src out (at o) e (at z) h x
        → gap_at kind true src e ≡ Ok (m, n) → gap_at kind true out h ≡ Ok (p, q) → (b : Bool) → Ends b n → Ends b q → Goes (f o) → Turned m p b (f o) (g z)) where
      pub line_runs : (n m : ℕ) (o z : X) (k l : ℕ) (xs : List (List ℕ)) → Row2 kind src out (at o) (at z) k l xs → length src - at o < n → length out - at z < m → I o z
          → answer (turns n f o) ≡ Going → Ended k l (turns n f o) (turns m g z)
      line_runs zero m o z k l xs w a b i h = absurd (omega arith)
      line_runs (suc n) zero o z k l xs w a b i h = absurd (omega arith)
      line_runs (suc n) (suc m) o z k l xs (end2 {e = e} {f = t} {n = c} {o = d} {x = x} w g1 e1 g2 e2) a b i h = stopped n m o z k l (item o z e t k c l d x i w g1 g2 true e1 e2 (first n o h))
      line_runs (suc n) (suc m) o z k l xs (more2 {e = e} {f = t} {m = u} {n = c} {o = v} {p = d} {x = x} {xs = ys} w g1 e1 g2 e2 rest) a b i h =
          let near = word_further TokenList kind src (at o) e u c x w.here g1 in
          let close = word_further TokenList kind out (at z) t v d x w.there g2 in
          let n1 = near.0 in
          let n2 = near.1 in
          let c1 = close.0 in
          let c2 = close.1 in
          onward n m o z u v k l (item o z e t u c v d x i w g1 g2 false e1 e2 (first n o h)) h
          (λ y r s1 s2 j h'. line_runs n m y r k l ys (rw (s1, s2) rest) (omega arith) (omega arith) j h')
