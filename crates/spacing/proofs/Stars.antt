-- In kind 4 a comment is left behind its first `*/`, and nowhere else. Assumes nothing.
use Rattle.std.specs.Prelude.{Result, Ok, Err}
use Prim.Native.Nat.{ℕ, ◌+◌, ◌-◌, ◌≤◌, ◌<◌}
use mathlib.Core.Path.{◌≡◌, refl, sym, ◌∙◌}
use mathlib.Core.List.{List, [], ◌∷◌}
use mathlib.Core.Bool.{Bool, true, false, not, ◌&&◌, ◌||◌, and-eq-true_iff}
use mathlib.Core.Logic.{⊎_elim}
use native.Mathlib.Omega.{arith}
use lib.Dec.{eqb}
use lib.ListN.{length, get_or, drop}
use borrow.Author.Tests.{eqb-true}
use Rattle.scan.specs.Scan.{is_eol, begins, starts_at}
use Rattle.scan.specs.Lines.{lines_here}
use Rattle.scan.proofs.Bytes.{on_test, told, le_or_lt, drop_at, drop_below, drop_next, drop_byte, starts_fits, starts_byte}
use Rattle.spacing.specs.Spacing.{slash_closes, is_blank, Mode, gap, slash, line, comment, spacing, spacing_at, spaces_at, Starred, Leaves}
use Rattle.spacing.specs.declared.SpacingError.{SpacingError}
use Rattle.spacing.specs.declared.SpacingError.TheVariants.{LineEnd, OpenComment}
use Rattle.spacing.proofs.Laws.{a_comment}

-- two choices by one test
both : {A : Type 0} (P : A → A → Type 0) (b : Bool) (x y u v : A) → (b ≡ true → P x u) → (b ≡ false → P y v) → P (elim b [ true ↦ x | false ↦ y ]) (elim b [ true ↦ u | false ↦ v ])
both P true x y u v f g = f refl
both P false x y u v f g = g refl

-- spacing that ends at an index
abbrev Ends : ℕ → Result (ℕ × ℕ) SpacingError → Type 0
Ends e (Ok (i, n)) = i ≡ e
Ends e (Err (LineEnd i)) = ⊥
Ends e (Err (OpenComment i)) = ⊥

-- where spacing ends does not go by the lines counted before
module _ (kind : ℕ) (ok : Bool) (e : ℕ) where
  abbrev Same : Result (ℕ × ℕ) SpacingError → Result (ℕ × ℕ) SpacingError → Type 0
  Same x y = Ends e x → Ends e y

  uncounted : (l : List ℕ) (mode : Mode) (i n m : ℕ) → Same (spacing kind ok mode l i n) (spacing kind ok mode l i m)
  unfolding spacing
  uncounted [] gap i n m = λ z. z
  uncounted [] (slash b) i n m = λ z. z
  uncounted [] line i n m = λ z. z
  uncounted [] (comment b behind) i n m = λ z. z
  uncounted (c ∷ cs) gap i n m =
      both Same (is_blank c) _ _ _ _ (λ t. uncounted cs gap (i + 1) n m)
      (λ f. both Same (is_eol c) _ _ _ _
      (λ t. both Same (not ok) _ _ _ _ (λ r z. z) (λ r. uncounted cs gap (i + 1) (n + lines_here c cs) (m + lines_here c cs)))
      (λ g. both Same (eqb c 47) _ _ _ _ (λ t. uncounted cs (slash i) (i + 1) n m) (λ t z. z)))
  uncounted (c ∷ cs) (slash b) i n m =
      both Same (eqb c 47) _ _ _ _ (λ t. uncounted cs line (i + 1) n m)
      (λ f. both Same (eqb c 42) _ _ _ _ (λ t. uncounted cs (comment b false) (i + 1) n m) (λ t z. z))
  uncounted (c ∷ cs) line i n m =
      both Same (is_eol c) _ _ _ _ (λ t. uncounted cs gap (i + 1) (n + lines_here c cs) (m + lines_here c cs)) (λ t. uncounted cs line (i + 1) n m)
  uncounted (c ∷ cs) (comment b behind) i n m =
      both Same (behind && eqb c 47) _ _ _ _ (λ t. uncounted cs gap (i + 1) n m)
      (λ f. both Same (is_eol c) _ _ _ _
      (λ t. both Same (not ok) _ _ _ _ (λ r z. z) (λ r. uncounted cs (comment b (slash_closes kind)) (i + 1) (n + lines_here c cs) (m + lines_here c cs)))
      (λ g. uncounted cs (comment b (eqb c 42)) (i + 1) n m))

-- a line end is no `*`
end_star : (c : ℕ) → is_eol c ≡ true → eqb c 42 ≡ false
unfolding is_eol
end_star c e = go (eqb c 10) refl (eqb c 13) refl e
  where
    go : (x : Bool) → eqb c 10 ≡ x → (y : Bool) → eqb c 13 ≡ y → (x || y) ≡ true → eqb c 42 ≡ false
    go true p y q e = rw (eqb-true c 10 p)
    go false p true q e = rw (eqb-true c 13 q)
    go false p false q e = let z : ◌≡◌ {A = ℕ} 0 1 = cc in absurd (omega arith)

-- `*/` stands where its two bytes do
star_slash : (s : List ℕ) (j c : ℕ) (cs : List ℕ) → j < length s → drop (j + 1) s ≡ c ∷ cs → starts_at (42 ∷ 47 ∷ []) s j ≡ (eqb (get_or s j 0) 42 && eqb c 47)
unfolding starts_at begins
star_slash s j c cs h q = rw (drop_at s j h, q) (pair (eqb (get_or s j 0) 42) (eqb c 47))
  where
    pair : (x y : Bool) → elim x [ true ↦ elim y [ true ↦ true | false ↦ false ] | false ↦ false ] ≡ (x && y)
    pair true true = refl
    pair true false = refl
    pair false y = refl

module _ (ok : Bool) (s : List ℕ) (b e : ℕ) (opens : starts_at (47 ∷ 42 ∷ []) s b ≡ true) where
  -- inside the comment, before index i: no `*/` ends there, and x tells whether the byte before is a `*` of it
  pub record Inside (i : ℕ) (x : Bool) : Type 0 where
    pub past : b + 2 ≤ i
    pub none : (j : ℕ) → b + 2 ≤ j → j + 1 < i → starts_at (42 ∷ 47 ∷ []) s j ≡ false
    pub star : x ≡ true → b + 2 < i
    pub mark : (j : ℕ) → b + 2 ≤ j → j + 1 ≡ i → eqb (get_or s j 0) 42 ≡ x

  abbrev Left : Result (ℕ × ℕ) SpacingError → Type 0
  Left r = Ends e r → Leaves ok s b e

  module _ (i n c : ℕ) (cs : List ℕ) (q : drop i s ≡ c ∷ cs) (x : Bool) (w : Inside i x) where
    -- what the byte at i says of the two that end with it
    here : (j : ℕ) → b + 2 ≤ j → j + 1 ≡ i → starts_at (42 ∷ 47 ∷ []) s j ≡ (x && eqb c 47)
    here j h p =
        let l = drop_below s i c cs q in
        let u : drop (j + 1) s ≡ c ∷ cs = rw p q in
        rw (← w.mark j h p) (star_slash s j c cs (omega arith) u)

    on : (x && eqb c 47) ≡ false → (y : Bool) → eqb c 42 ≡ y → Inside (i + 1) y
    on f y t =
        let p = w.past in record {
          past = omega arith;
          none = λ j h l. ⊎_elim (λ a. here j h (omega arith) ∙ f) (λ a. w.none j h a) (le_or_lt i (j + 1));
          star = λ z. omega arith;
          mark = λ j h p. let z : j ≡ i = omega arith in rw (z, drop_byte s i c cs q) t;
        }

    left : (x && eqb c 47) ≡ true → Left (spacing 4 ok gap cs (i + 1) n)
    unfolding spacing_at
    left t z =
        let y = (and-eq-true_iff x (eqb c 47)).0 t in
        let p = w.star y.0 in
        let k : i - 1 + 1 ≡ i = omega arith in
        let k2 : i - 1 + 2 ≡ i + 1 = omega arith in
        let v : Ends e (spacing 4 ok gap (drop (i + 1) s) (i + 1) 0) = rw (drop_next s i c cs q) (uncounted 4 ok e cs gap (i + 1) n 0 z) in
        go (spaces_at 4 ok s (i - 1 + 2)) refl (rw k2 v)
        (record { opens = opens; apart = omega arith; closes = here (i - 1) (omega arith) k ∙ t; first = λ j h l. w.none j h (omega arith) })
      where
        go : (r : Result (ℕ × ℕ) SpacingError) → spaces_at 4 ok s (i - 1 + 2) ≡ r → Ends e r → Starred s b (i - 1) → Leaves ok s b e
        go (Ok (j, m)) d p y = record { star = i - 1; comment = y; lines = m; behind = rw p at d }
        go (Err (LineEnd j)) d p y = absurd p
        go (Err (OpenComment j)) d p y = absurd p

  inside : (l : List ℕ) (x : Bool) (i n : ℕ) → drop i s ≡ l → Inside i x → Left (spacing 4 ok (comment b x) l i n)
  unfolding spacing
  inside [] x i n q w = λ z. absurd z
  inside (c ∷ cs) x i n q w =
      on_test Left (x && eqb c 47) _ _ (λ t. left i n c cs q x w t)
      (λ f. on_test Left (is_eol c) _ _
      (λ t. on_test Left (not ok) _ _ (λ r z. absurd z) (λ r. inside cs false (i + 1) (n + lines_here c cs) (drop_next s i c cs q) (on i n c cs q x w f false (end_star c t))))
      (λ g. inside cs (eqb c 42) (i + 1) n (drop_next s i c cs q) (on i n c cs q x w f (eqb c 42) refl)))

-- "A comment closes only at `*/`": spacing that begins with a comment and ends has left it behind the first `*/`, and went on from there.
pub star_closes : (ok : Bool) (s : List ℕ) (b i n : ℕ) → starts_at (47 ∷ 42 ∷ []) s b ≡ true → spaces_at 4 ok s b ≡ Ok (i, n) → Leaves ok s b i
unfolding spacing_at
star_closes ok s b i n o q =
    let f = starts_fits (47 ∷ 42 ∷ []) s b o (omega arith) in
    let z : b + 0 ≡ b = omega arith in
    let z2 : b + 1 + 1 ≡ b + 2 = omega arith in
    let a : get_or s b 0 ≡ 47 = rw z at (starts_byte (47 ∷ 42 ∷ []) s b o 0 (omega arith)) in
    let c : get_or s (b + 1) 0 ≡ 42 = starts_byte (47 ∷ 42 ∷ []) s b o 1 (omega arith) in
    inside ok s b i o (drop (b + 1 + 1) s) false (b + 1 + 1) 0 refl
    (record { past = omega arith; none = λ j h l. absurd (omega arith); star = λ t. let u : ◌≡◌ {A = ℕ} 0 1 = cc in absurd (omega arith); mark = λ j h l. absurd (omega arith) })
    (told (Ends i) (sym (a_comment 4 ok s b 0 (Ok (i, n)) q (omega arith) a (omega arith) c)) refl)
