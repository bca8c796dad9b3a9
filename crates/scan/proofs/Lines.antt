-- Which bytes end a line, as rules for `search`; and how the lines that end before an index add up. Assumes nothing.
use Prim.Native.Nat.{ℕ, zero, suc, ◌+◌, ◌-◌, ◌≤◌, ◌<◌}
use mathlib.Core.Path.{◌≡◌, refl, sym, ◌∙◌}
use mathlib.Core.List.{List, [], ◌∷◌}
use mathlib.Core.Bool.{Bool, true, false, ◌||◌, ◌&&◌, not, false≢true}
use mathlib.Core.Logic.{◌⊎◌, inl, inr, ⊎_elim}
use native.Mathlib.Decide.{ℕ_discrete}
use native.Mathlib.Numerals.{add-one}
use native.Mathlib.Omega.{arith}
use lib.Dec.{eqb}
use lib.ListN.{length, get_or, drop, get_or-eq_default}
use borrow.Author.Tests.{ne_eqb, eqb-true}
use Rattle.scan.specs.Scan.{begins, starts_at, is_eol}
use Rattle.scan.specs.Lines.{lines_here, lines_at, lines_to}
use Rattle.scan.proofs.Bytes.{on_test, drop_next, drop_byte, starts_byte}

module _ (s : List ℕ) (k : ℕ) where
  pub lines_past : length s ≤ k → 0 ≡ lines_at s k
  unfolding lines_at lines_here
  lines_past h = rw (get_or-eq_default s 0 h)

  pub lines_lf : get_or s k 0 ≡ 10 → 1 ≡ lines_at s k
  unfolding lines_at lines_here
  lines_lf e = rw e

  -- a CR counts by whether an LF follows it
  module _ (f : Bool) (e : get_or s k 0 ≡ 13) (q : f ≡ starts_at (10 ∷ []) s (k + 1)) where
    pub lines_pair : f ≡ true → 0 ≡ lines_at s k
    unfolding lines_at lines_here starts_at
    lines_pair t = let z : begins (10 ∷ []) (drop (k + 1) s) ≡ true = sym q ∙ t in rw (lines_at, e, lines_here, z)

    pub lines_cr : f ≡ false → 1 ≡ lines_at s k
    unfolding lines_at lines_here starts_at
    lines_cr t = let z : begins (10 ∷ []) (drop (k + 1) s) ≡ false = sym q ∙ t in rw (lines_at, e, lines_here, z)

  pub lines_none : (get_or s k 0 ≡ 10 → ⊥) → (get_or s k 0 ≡ 13 → ⊥) → 0 ≡ lines_at s k
  unfolding lines_at lines_here
  lines_none f g = rw (lines_at, lines_here, ne_eqb _ _ f, ne_eqb _ _ g)

-- a byte is no line end's if it is a mark that is none
pub mark_plain : (c k : ℕ) → is_eol k ≡ false → eqb c k ≡ true → is_eol c ≡ false
mark_plain c k f e = rw (eqb-true c k e) f

-- A byte ends one line at most,
pub here_few : (c : ℕ) (cs : List ℕ) → lines_here c cs ≤ 1
unfolding lines_here
here_few c cs = on_test (λ (n : ℕ). n ≤ 1) (eqb c 10 || (eqb c 13 && not (begins (10 ∷ []) cs))) _ _ (λ e. omega arith) (λ e. omega arith)

-- none if it is neither LF nor CR,
pub here_none : (c : ℕ) (cs : List ℕ) → is_eol c ≡ false → lines_here c cs ≡ 0
unfolding lines_here is_eol
here_none c cs e = go (eqb c 10) (eqb c 13) (begins (10 ∷ []) cs) e
  where
    go : (x y z : Bool) → (x || y) ≡ false → ◌≡◌ {A = ℕ} (elim (x || (y && not z)) [ true ↦ 1 | false ↦ 0 ]) 0
    go true y z e = absurd (false≢true (sym e))
    go false true z e = absurd (false≢true (sym e))
    go false false z e = refl

-- and one if it is either, or else an LF follows it
pub here_pair : (c : ℕ) (cs : List ℕ) → is_eol c ≡ true → (lines_here c cs ≡ 1) ⊎ (begins (10 ∷ []) cs ≡ true)
unfolding lines_here is_eol
here_pair c cs e = go (eqb c 10) (eqb c 13) (begins (10 ∷ []) cs) e
  where
    go : (x y z : Bool) → (x || y) ≡ true → (◌≡◌ {A = ℕ} (elim (x || (y && not z)) [ true ↦ 1 | false ↦ 0 ]) 1) ⊎ (z ≡ true)
    go true y z e = inl refl
    go false true true e = inr refl
    go false true false e = inl refl
    go false false z e = absurd (false≢true e)

module _ (s : List ℕ) where
  -- one byte more
  pub lines_next : (i c : ℕ) (cs : List ℕ) → drop i s ≡ c ∷ cs → lines_to s (i + 1) ≡ lines_to s i + lines_here c cs
  unfolding lines_to lines_at
  lines_next i c cs q = rw (add-one, lines_to, lines_at, drop_byte s i c cs q, drop_next s i c cs q)

  pub lines_step : (i : ℕ) → lines_to s (i + 1) ≡ lines_to s i + lines_at s i
  unfolding lines_to
  lines_step i = rw (add-one, lines_to)

  -- no more lines end before an index than bytes stand there,
  pub lines_few : (i : ℕ) → lines_to s i ≤ i
  unfolding lines_to lines_at
  lines_few zero = omega arith
  lines_few (suc i) = let h = lines_few i in let k = here_few (get_or s i 0) (drop (i + 1) s) in omega arith

  -- before a later index no fewer end,
  grow : (m i : ℕ) → lines_to s i ≤ lines_to s (i + m)
  grow zero i = let z : i + 0 ≡ i = omega arith in rw z (omega arith)
  grow (suc m) i = let z : i + suc m ≡ i + 1 + m = omega arith in let h = lines_step i in let k = grow m (i + 1) in rw z (omega arith)

  pub lines_grow : (i j : ℕ) → i ≤ j → lines_to s i ≤ lines_to s j
  lines_grow i j h = let z : i + (j - i) ≡ j = omega arith in rw z at (grow (j - i) i)

  -- none more if neither LF nor CR stands between,
  plain : (m i : ℕ) → ((k : ℕ) → i ≤ k → k < i + m → is_eol (get_or s k 0) ≡ false) → lines_to s (i + m) ≡ lines_to s i
  unfolding lines_at
  plain zero i f = let z : i + 0 ≡ i = omega arith in rw z refl
  plain (suc m) i f =
      let z : i + suc m ≡ i + 1 + m = omega arith in
      let h = lines_step i in
      let k = plain m (i + 1) (λ k a b. f k (omega arith) (omega arith)) in
      let l = here_none (get_or s i 0) (drop (i + 1) s) (f i (omega arith) (omega arith)) in
      rw z (omega arith)

  pub lines_plain : (i j : ℕ) → i ≤ j → ((k : ℕ) → i ≤ k → k < j → is_eol (get_or s k 0) ≡ false) → lines_to s j ≡ lines_to s i
  lines_plain i j h f = let z : i + (j - i) ≡ j = omega arith in rw z at (plain (j - i) i (λ k a b. f k a (omega arith)))

  -- and some more if either does, unless the part ends between CR and LF.
  pub lines_more : (i j k : ℕ) → i ≤ k → k < j → is_eol (get_or s k 0) ≡ true → (get_or s j 0 ≡ 10 → ⊥) → lines_to s i < lines_to s j
  unfolding lines_at starts_at
  lines_more i j k h l e f = ⊎_elim (λ x. at k h l x) (λ x. pair x (ℕ_discrete (k + 1) j)) (here_pair (get_or s k 0) (drop (k + 1) s) e)
    where
      at : (m : ℕ) → i ≤ m → m < j → lines_at s m ≡ 1 → lines_to s i < lines_to s j
      at m a b q = let x = lines_grow i m a in let y = lines_step m in let z = lines_grow (m + 1) j (omega arith) in omega arith

      feed : begins (10 ∷ []) (drop (k + 1) s) ≡ true → get_or s (k + 1) 0 ≡ 10
      feed x = let z : k + 1 + 0 ≡ k + 1 = omega arith in rw z at (starts_byte (10 ∷ []) s (k + 1) x 0 (omega arith))

      pair : begins (10 ∷ []) (drop (k + 1) s) ≡ true → Dec (k + 1 ≡ j) → lines_to s i < lines_to s j
      pair x (yes q) = absurd (f (rw q at (feed x)))
      pair x (no q) = at (k + 1) (omega arith) (omega arith) (sym (lines_lf s (k + 1) (feed x)))
