-- Spacing tells how many lines it passed, in blanks and in comments of both sorts; none exactly where neither LF nor CR stands in it. Assumes nothing.
use Rattle.std.specs.Prelude.{Result, Ok, Err}
use Prim.Native.Nat.{ℕ, ◌+◌, ◌≤◌, ◌<◌}
use mathlib.Core.Path.{◌≡◌, refl, sym, ap}
use mathlib.Core.List.{List, [], ◌∷◌}
use mathlib.Core.Bool.{Bool, true, false, not, ◌&&◌, ◌||◌, false≢true}
use mathlib.Core.Logic.{◌↔◌}
use native.Mathlib.Omega.{arith}
use lib.Dec.{eqb}
use lib.ListN.{length, get_or, drop, length-drop, get_or-eq_default}
use borrow.Author.Tests.{eqb-true}
use Rattle.scan.specs.Scan.{is_eol}
use Rattle.scan.specs.Lines.{lines_here, lines_to}
use Rattle.scan.proofs.Bytes.{on_test, told, drop_next, drop_byte}
use Rattle.scan.proofs.Lines.{mark_plain, here_none, lines_next, lines_plain, lines_more}
use Rattle.spacing.specs.Spacing.{slash_closes, is_blank, Mode, gap, slash, line, comment, spacing, spacing_at, spaces_at}
use Rattle.spacing.specs.declared.SpacingError.{SpacingError}
use Rattle.spacing.specs.declared.SpacingError.TheVariants.{LineEnd, OpenComment}

-- bytes that spacing passes without a count are no line ends
blank_plain : (c : ℕ) → is_blank c ≡ true → is_eol c ≡ false
unfolding is_blank is_eol
blank_plain c e = go (eqb c 9) refl (eqb c 32) refl e
  where
    go : (x : Bool) → eqb c 9 ≡ x → (y : Bool) → eqb c 32 ≡ y → (x || y) ≡ true → (eqb c 10 || eqb c 13) ≡ false
    go true p y q e = rw (eqb-true c 9 p)
    go false p true q e = rw (eqb-true c 32 q)
    go false p false q e = let z : ◌≡◌ {A = ℕ} 0 1 = cc in absurd (omega arith)

slash_plain : (c : ℕ) → eqb c 47 ≡ true → is_eol c ≡ false
unfolding is_eol
slash_plain c e = mark_plain c 47 refl e

star_plain : (c : ℕ) → eqb c 42 ≡ true → is_eol c ≡ false
unfolding is_eol
star_plain c e = mark_plain c 42 refl e

close_plain : (b : Bool) (c : ℕ) → (b && eqb c 47) ≡ true → is_eol c ≡ false
close_plain true c e = slash_plain c e
close_plain false c e = let z : ◌≡◌ {A = ℕ} 0 1 = cc in absurd (omega arith)

-- past the end stands no line end
end_plain : (s : List ℕ) (i : ℕ) → drop i s ≡ [] → is_eol (get_or s i 0) ≡ false
unfolding is_eol
end_plain s i q = let m = length-drop i s in let n : length (drop i s) ≡ 0 = ap length q in rw (get_or-eq_default s 0 {n = i} (omega arith))

module _ (kind : ℕ) (ok : Bool) (s : List ℕ) (from : ℕ) where
  -- the lines that end before index i are those before the begin, and n more
  abbrev Till : ℕ → ℕ → Type 0
  Till i n = (from ≤ i) × (lines_to s from + n ≡ lines_to s i)

  -- spacing may end before the byte at index i, which belongs to no line end
  abbrev Stop : ℕ → ℕ → Type 0
  Stop i n = Till i n × (is_eol (get_or s i 0) ≡ false)

  -- what spacing that ended passed
  abbrev Stopped : Result (ℕ × ℕ) SpacingError → Type 0
  Stopped (Ok (i, n)) = Stop i n
  Stopped (Err (LineEnd i)) = Unit {0}
  Stopped (Err (OpenComment i)) = Unit {0}

  -- what holds in front of index i, n lines being counted; behind a `/` spacing may still turn back to it
  abbrev Ready : Mode → ℕ → ℕ → Type 0
  Ready gap i n = Till i n
  Ready (slash b) i n = Stop b n × Till i n
  Ready line i n = Till i n
  Ready (comment b behind) i n = Till i n

  module _ (i n c : ℕ) (cs : List ℕ) (q : drop i s ≡ c ∷ cs) (x : Till i n) where
    pass : is_eol c ≡ false → Till (i + 1) n
    pass e = let h = x.0 in let k = x.1 in let y = lines_next s i c cs q in let z = here_none c cs e in (omega arith, omega arith)

    hit : Till (i + 1) (n + lines_here c cs)
    hit = let h = x.0 in let k = x.1 in let y = lines_next s i c cs q in (omega arith, omega arith)

    here : is_eol c ≡ false → Stop i n
    here e = (x, rw (drop_byte s i c cs q) e)

    -- one byte more, where every mode behind it is known
    module _ (on : (mode : Mode) (m : ℕ) → Ready mode (i + 1) m → Stopped (spacing kind ok mode cs (i + 1) m)) where
      in-gap : Stopped (spacing kind ok gap (c ∷ cs) i n)
      unfolding spacing
      in-gap =
          on_test Stopped (is_blank c) _ _ (λ e. on gap n (pass (blank_plain c e)))
          (λ f. on_test Stopped (is_eol c) _ _
          (λ e. on_test Stopped (not ok) _ _ (λ r. tt) (λ r. on gap (n + lines_here c cs) hit))
          (λ g. on_test Stopped (eqb c 47) _ _ (λ e. on (slash i) n (here g, pass g)) (λ e. here g)))

      in-slash : (b : ℕ) → Stop b n → Stopped (spacing kind ok (slash b) (c ∷ cs) i n)
      unfolding spacing
      in-slash b y =
          on_test Stopped (eqb c 47) _ _ (λ e. on line n (pass (slash_plain c e)))
          (λ f. on_test Stopped (eqb c 42) _ _ (λ e. on (comment b false) n (pass (star_plain c e))) (λ e. y))

      in-line : Stopped (spacing kind ok line (c ∷ cs) i n)
      unfolding spacing
      in-line = on_test Stopped (is_eol c) _ _ (λ e. on gap (n + lines_here c cs) hit) (λ e. on line n (pass e))

      in-comment : (b : ℕ) (behind : Bool) → Stopped (spacing kind ok (comment b behind) (c ∷ cs) i n)
      unfolding spacing
      in-comment b behind =
          on_test Stopped (behind && eqb c 47) _ _ (λ e. on gap n (pass (close_plain behind c e)))
          (λ f. on_test Stopped (is_eol c) _ _
          (λ e. on_test Stopped (not ok) _ _ (λ r. tt) (λ r. on (comment b (slash_closes kind)) (n + lines_here c cs) hit))
          (λ g. on (comment b (eqb c 42)) n (pass g)))

  stopped : (l : List ℕ) (mode : Mode) (i n : ℕ) → drop i s ≡ l → Ready mode i n → Stopped (spacing kind ok mode l i n)
  unfolding spacing
  stopped [] gap i n q x = (x, end_plain s i q)
  stopped [] (slash b) i n q x = x.0
  stopped [] line i n q x = (x, end_plain s i q)
  stopped [] (comment b behind) i n q x = tt
  stopped (c ∷ cs) gap i n q x = in-gap i n c cs q x (λ mode m. stopped cs mode (i + 1) m (drop_next s i c cs q))
  stopped (c ∷ cs) (slash b) i n q x = in-slash i n c cs q x.1 (λ mode m. stopped cs mode (i + 1) m (drop_next s i c cs q)) b x.0
  stopped (c ∷ cs) line i n q x = in-line i n c cs q x (λ mode m. stopped cs mode (i + 1) m (drop_next s i c cs q))
  stopped (c ∷ cs) (comment b d) i n q x = in-comment i n c cs q x (λ mode m. stopped cs mode (i + 1) m (drop_next s i c cs q)) b d

module _ (kind : ℕ) (ok : Bool) (s : List ℕ) (from i n : ℕ) (e : spaces_at kind ok s from ≡ Ok (i, n)) where
  till_end : Stop kind ok s from i n
  unfolding spacing_at
  till_end = told (Stopped kind ok s from) e (stopped kind ok s from (drop from s) gap from 0 refl (omega arith, omega arith))

  -- Spacing that ends tells "how many lines" it passed, wherever they end in it: among blanks, with a `//` comment, inside `/* */`.
  pub spacing_tells : lines_to s from + n ≡ lines_to s i
  spacing_tells = till_end.0.1

  -- It never ends before an LF or a CR, and so not between the two.
  pub spacing_stops : is_eol (get_or s i 0) ≡ false
  spacing_stops = till_end.1

  -- "No reading changes": no line is counted exactly where neither LF nor CR stands in it.
  pub counted_iff : (n ≡ 0) ↔ ((k : ℕ) → from ≤ k → k < i → is_eol (get_or s k 0) ≡ false)
  unfolding is_eol
  counted_iff = (λ z k h l. none z k h l (is_eol (get_or s k 0)) refl, λ f. let a = spacing_tells in let b = lines_plain s from i till_end.0.0 f in omega arith)
    where
      none : n ≡ 0 → (k : ℕ) → from ≤ k → k < i → (b : Bool) → is_eol (get_or s k 0) ≡ b → b ≡ false
      none z k h l true y = let a = spacing_tells in let m = lines_more s from i k h l y (λ f. let u : is_eol 10 ≡ false = rw f at spacing_stops in absurd (false≢true (sym u))) in absurd (omega arith)
      none z k h l false y = refl
