-- Where spacing ends and where it refuses: onward, inside the source, and at a code point's begin if it began at one. Assumes nothing.
use Rattle.std.specs.Prelude.{Result}
use Prim.Native.Nat.{ℕ, ◌+◌, ◌-◌, ◌≤◌, ◌<◌}
use mathlib.Core.Path.{◌≡◌, refl}
use mathlib.Core.List.{List, [], ◌∷◌}
use mathlib.Core.Bool.{Bool, true, false, not, ◌&&◌, ◌||◌}
use mathlib.Core.Logic.{inl, inr}
use native.Mathlib.Omega.{arith}
use lib.Dec.{eqb}
use lib.ListN.{length, drop}
use borrow.Author.Tests.{eqb-true}
use Rattle.scan.specs.Scan.{is_eol, Edge}
use Rattle.scan.specs.Lines.{lines_here}
use Rattle.scan.proofs.Bytes.{on_test, drop_below, drop_next, drop_byte, drop_ended}
use Rattle.scan.proofs.Lines.{here_few}
use Rattle.spacing.specs.Spacing.{slash_closes, is_blank, Mode, gap, slash, line, comment, spacing, spacing_at, spaces_at, Spaces}
use Rattle.spacing.specs.declared.SpacingError.{SpacingError}

-- either of two numbers, both below 128
either : (c a b : ℕ) → (eqb c a || eqb c b) ≡ true → a < 128 → b < 128 → c < 128
either c a b e h k = go (eqb c a) refl (eqb c b) refl e
  where
    go : (x : Bool) → eqb c a ≡ x → (y : Bool) → eqb c b ≡ y → (x || y) ≡ true → c < 128
    go true p y q e = let z = eqb-true c a p in omega arith
    go false p true q e = let z = eqb-true c b q in omega arith
    go false p false q e = let z : ◌≡◌ {A = ℕ} 0 1 = cc in absurd (omega arith)

blank_low : (c : ℕ) → is_blank c ≡ true → c < 128
unfolding is_blank
blank_low c e = either c 9 32 e (omega arith) (omega arith)

eol_low : (c : ℕ) → is_eol c ≡ true → c < 128
unfolding is_eol
eol_low c e = either c 10 13 e (omega arith) (omega arith)

close_low : (b : Bool) (c : ℕ) → (b && eqb c 47) ≡ true → c < 128
close_low true c e = let z = eqb-true c 47 e in omega arith
close_low false c e = let z : ◌≡◌ {A = ℕ} 0 1 = cc in absurd (omega arith)

module _ (kind : ℕ) (ok : Bool) (s : List ℕ) (from : ℕ) where
  -- what holds in front of index i, n lines being counted
  abbrev Ready : Mode → ℕ → ℕ → Type 0
  Ready gap i n = (from + n ≤ i) × Edge s from i
  Ready (slash b) i n = (from + n ≤ b) × (b < i) × Edge s from b
  Ready line i n = from + n ≤ i
  Ready (comment b behind) i n = (from ≤ b) × (b < i) × (from + n ≤ i)

  -- behind an ASCII byte
  edge : (i c : ℕ) (cs : List ℕ) → drop i s ≡ c ∷ cs → c < 128 → Edge s from (i + 1)
  edge i c cs q h = let z : i + 1 - 1 ≡ i = omega arith in inr (inr (omega arith, rw (z, drop_byte s i c cs q) h))

  behind : (i c : ℕ) (cs : List ℕ) → drop i s ≡ c ∷ cs → i + 1 ≤ length s
  behind i c cs q = let h = drop_below s i c cs q in omega arith

  -- one byte more, where every mode behind it is known
  module _ (i n c : ℕ) (cs : List ℕ) (q : drop i s ≡ c ∷ cs) (on : (mode : Mode) (m : ℕ) → Ready mode (i + 1) m → Spaces s from (spacing kind ok mode cs (i + 1) m)) where
    in-gap : i ≤ length s → Ready gap i n → Spaces s from (spacing kind ok gap (c ∷ cs) i n)
    unfolding spacing
    in-gap h x =
        let k = x.0 in
        let y = drop_below s i c cs q in
        on_test (Spaces s from) (is_blank c) _ _ (λ e. on gap n (omega arith, edge i c cs q (blank_low c e)))
        (λ f. on_test (Spaces s from) (is_eol c) _ _
        (λ e. on_test (Spaces s from) (not ok) _ _ (λ r. (omega arith, y)) (λ r. on gap (n + lines_here c cs) (omega (arith, here_few c cs), edge i c cs q (eol_low c e))))
        (λ g. on_test (Spaces s from) (eqb c 47) _ _ (λ e. on (slash i) n (k, omega arith, x.1)) (λ e. (k, h, x.1))))

    in-slash : (b : ℕ) → Ready (slash b) i n → Spaces s from (spacing kind ok (slash b) (c ∷ cs) i n)
    unfolding spacing
    in-slash b x =
        let k = x.0 in
        let l = x.1 in
        let y = drop_below s i c cs q in
        on_test (Spaces s from) (eqb c 47) _ _ (λ e. on line n (omega arith))
        (λ f. on_test (Spaces s from) (eqb c 42) _ _ (λ e. on (comment b false) n (omega arith, omega arith, omega arith)) (λ e. (k, omega arith, x.2)))

    in-line : Ready line i n → Spaces s from (spacing kind ok line (c ∷ cs) i n)
    unfolding spacing
    in-line x =
        on_test (Spaces s from) (is_eol c) _ _ (λ e. on gap (n + lines_here c cs) (omega (arith, here_few c cs), edge i c cs q (eol_low c e))) (λ e. on line n (omega arith))

    in-comment : (b : ℕ) (behind : Bool) → Ready (comment b behind) i n → Spaces s from (spacing kind ok (comment b behind) (c ∷ cs) i n)
    unfolding spacing
    in-comment b behind x =
        let k = x.0 in
        let l = x.1 in
        let m = x.2 in
        let y = drop_below s i c cs q in
        on_test (Spaces s from) (behind && eqb c 47) _ _ (λ e. on gap n (omega arith, edge i c cs q (close_low behind c e)))
        (λ f. on_test (Spaces s from) (is_eol c) _ _
        (λ e. on_test (Spaces s from) (not ok) _ _ (λ r. (k, omega arith)) (λ r. on (comment b (slash_closes kind)) (n + lines_here c cs) (k, omega arith, omega (arith, here_few c cs))))
        (λ g. on (comment b (eqb c 42)) n (k, omega arith, omega arith)))

  place : (l : List ℕ) (mode : Mode) (i n : ℕ) → drop i s ≡ l → i ≤ length s → Ready mode i n → Spaces s from (spacing kind ok mode l i n)
  unfolding spacing
  place [] gap i n q h x = (x.0, h, x.1)
  place [] (slash b) i n q h x = let k = x.1 in (x.0, omega arith, x.2)
  place [] line i n q h x = (x, h, inr (inl (drop_ended s i q h)))
  place [] (comment b behind) i n q h x = let k = x.1 in (x.0, omega arith)
  place (c ∷ cs) gap i n q h x = in-gap i n c cs q (λ mode m. place cs mode (i + 1) m (drop_next s i c cs q) (behind i c cs q)) h x
  place (c ∷ cs) (slash b) i n q h x = in-slash i n c cs q (λ mode m. place cs mode (i + 1) m (drop_next s i c cs q) (behind i c cs q)) b x
  place (c ∷ cs) line i n q h x = in-line i n c cs q (λ mode m. place cs mode (i + 1) m (drop_next s i c cs q) (behind i c cs q)) x
  place (c ∷ cs) (comment b d) i n q h x = in-comment i n c cs q (λ mode m. place cs mode (i + 1) m (drop_next s i c cs q) (behind i c cs q)) b d x

pub spaces : (kind : ℕ) (ok : Bool) (s : List ℕ) (from : ℕ) → from ≤ length s → Spaces s from (spaces_at kind ok s from)
unfolding spacing_at
spaces kind ok s from h = place kind ok s from (drop from s) gap from 0 refl h (omega arith, inl refl)

-- both clauses of `parse_ws`, from the first
pub placed : (kind : ℕ) (ok : Bool) (s : List ℕ) (from : ℕ) (r : Result (ℕ × ℕ) SpacingError) → from ≤ length s → r ≡ spaces_at kind ok s from → (r ≡ spaces_at kind ok s from) × Spaces s from r
placed kind ok s from r h e = (e, rw e (spaces kind ok s from h))
