-- One law for each way through `spacing`, from what the arms of a `match` on a byte know, as rules for `search`: the goal shows the index,
-- the count and the answer r. At a known byte the definition computes, so an arm of one number wants `drop_key` alone. Assumes nothing.
use Rattle.std.specs.Prelude.{Result, Ok, Err}
use Prim.Native.Nat.{ℕ, ◌+◌, ◌≤◌, ◌<◌}
use mathlib.Core.Path.{◌≡◌, sym, ◌∙◌}
use mathlib.Core.List.{List, [], ◌∷◌}
use mathlib.Core.Bool.{Bool, true, false, not, ◌&&◌, and-eq-true_iff}
use mathlib.Core.Logic.{inl, inr, ⊎_elim}
use lib.Dec.{eqb}
use lib.ListN.{length, get_or, drop, drop_of_length-le}
use borrow.Author.Tests.{eq-eqb, ne_eqb, not-true, not-false}
use types.Run.{OneOf}
use Rattle.scan.specs.declared.Class.TheVariants.{LineByte, CommentByte}
use Rattle.scan.specs.Scan.{is_eol, is_at, in_class, Runs}
use Rattle.scan.specs.Lines.{lines_at}
use Rattle.scan.proofs.Bytes.{drop_at, drop_key, ends, eol_yes, eol_no, at_true, at_next, at_here, le_or_lt}
use Rattle.scan.proofs.Runs.{run_keeps}
use Rattle.spacing.specs.Spacing.{slash_closes, is_blank, gap, slash, line, comment, spacing, spacing_at}
use Rattle.spacing.specs.declared.SpacingError.{SpacingError}
use Rattle.spacing.specs.declared.SpacingError.TheVariants.{LineEnd, OpenComment}

abbrev blanks : List ℕ
blanks = 9 ∷ 32 ∷ []

module _ (x : ℕ) where
  blank_no : (OneOf blanks x → ⊥) → is_blank x ≡ false
  unfolding is_blank
  blank_no f = rw (ne_eqb x 9 (λ e. f (inl e)), ne_eqb x 32 (λ e. f (inr e)))

  end_no_blank : OneOf ends x → is_blank x ≡ false
  unfolding is_blank
  end_no_blank o = ⊎_elim (λ e. rw e) (λ e. rw e) o

-- another byte behind a `/` stops where the `/` stands
slash_stops : (kind : ℕ) (ok : Bool) (b c : ℕ) (cs : List ℕ) (i n : ℕ) → eqb c 47 ≡ false → eqb c 42 ≡ false → spacing kind ok (slash b) (c ∷ cs) i n ≡ Ok (b, n)
unfolding spacing
slash_stops kind ok b c cs i n f g = rw (spacing, f, g)

module _ (kind : ℕ) (ok : Bool) (s : List ℕ) (i n : ℕ) (r : Result (ℕ × ℕ) SpacingError) where
  module _ (inv : spacing_at kind ok gap s i n ≡ r) where
    pub a_end : length s ≤ i → Ok (i, n) ≡ r
    unfolding spacing spacing_at
    a_end h = rw (drop_of_length-le s h) at inv

    module _ (h : i < length s) where
      pub a_blank : OneOf blanks (get_or s i 0) → spacing_at kind ok gap s (i + 1) n ≡ r
      unfolding spacing spacing_at is_blank
      a_blank o = ⊎_elim (λ e. rw (drop_key s i 9 h e) at inv) (λ e. rw (drop_key s i 32 h e) at inv) o

      pub a_refused : OneOf ends (get_or s i 0) → not ok ≡ true → Err (LineEnd i) ≡ r
      unfolding spacing spacing_at
      a_refused o f = rw (drop_at s i h, end_no_blank _ o, eol_yes _ o, f, spacing) at inv

      -- the callee's number m is what the definition adds
      pub a_eol : (m : ℕ) → OneOf ends (get_or s i 0) → not ok ≡ false → m ≡ lines_at s i → spacing_at kind ok gap s (i + 1) (n + m) ≡ r
      unfolding spacing spacing_at lines_at
      a_eol m o f q = rw q (rw (drop_at s i h, end_no_blank _ o, eol_yes _ o, f, spacing) at inv)

      pub a_other : (OneOf blanks (get_or s i 0) → ⊥) → (OneOf ends (get_or s i 0) → ⊥) → (get_or s i 0 ≡ 47 → ⊥) → Ok (i, n) ≡ r
      unfolding spacing spacing_at
      a_other a b f = rw (drop_at s i h, blank_no _ a, eol_no _ b, ne_eqb _ _ f, spacing) at inv

      module _ (e : get_or s i 0 ≡ 47) where
        pub a_slash_end : length s ≤ i + 1 → Ok (i, n) ≡ r
        unfolding spacing spacing_at is_blank is_eol
        a_slash_end k = rw (drop_key s i 47 h e, drop_of_length-le s k) at inv

        pub a_slash_other : i + 1 < length s → (get_or s (i + 1) 0 ≡ 47 → ⊥) → (get_or s (i + 1) 0 ≡ 42 → ⊥) → Ok (i, n) ≡ r
        unfolding spacing spacing_at is_blank is_eol
        a_slash_other k f g = sym (slash_stops kind ok i (get_or s (i + 1) 0) (drop (i + 1 + 1) s) (i + 1) n (ne_eqb _ _ f) (ne_eqb _ _ g)) ∙ rw (drop_key s i 47 h e, drop_at s (i + 1) k) at inv

        -- the second `/` is a byte of the comment's line too
        a_line : i + 1 < length s → get_or s (i + 1) 0 ≡ 47 → spacing_at kind ok line s (i + 1) n ≡ r
        unfolding spacing spacing_at is_blank is_eol
        a_line k f = let d = drop_key s (i + 1) 47 k f in rw d (rw (drop_key s i 47 h e, d) at inv)

        pub a_comment : i + 1 < length s → get_or s (i + 1) 0 ≡ 42 → spacing_at kind ok (comment i false) s (i + 1 + 1) n ≡ r
        unfolding spacing spacing_at is_blank is_eol
        a_comment k f = rw (drop_key s i 47 h e, drop_key s (i + 1) 42 k f) at inv

  -- in a comment that runs through its line end
  l_end : spacing_at kind ok line s i n ≡ r → length s ≤ i → spacing_at kind ok gap s i n ≡ r
  unfolding spacing spacing_at
  l_end inv h = let e = drop_of_length-le s h in rw e (rw e at inv)

  l_byte : spacing_at kind ok line s i n ≡ r → i < length s → is_eol (get_or s i 0) ≡ true → spacing_at kind ok gap s (i + 1) (n + lines_at s i) ≡ r
  unfolding spacing spacing_at lines_at
  l_byte inv h t = rw (drop_at s i h, t, spacing) at inv

  l_on : spacing_at kind ok line s i n ≡ r → i < length s → is_eol (get_or s i 0) ≡ false → spacing_at kind ok line s (i + 1) n ≡ r
  unfolding spacing spacing_at
  l_on inv h t = rw (drop_at s i h, t, spacing) at inv

-- a line's bytes are passed one by one
line_byte : (c : ℕ) (b : Bool) → in_class LineByte c ≡ not b → is_eol c ≡ b
unfolding in_class
line_byte c true e = not-false (is_eol c) e
line_byte c false e = not-true (is_eol c) e

module _ (kind : ℕ) (ok : Bool) (s : List ℕ) (n : ℕ) (r : Result (ℕ × ℕ) SpacingError) where
  module _ (i e : ℕ) (inv : spacing_at kind ok gap s i n ≡ r) (h : i < length s) (c : get_or s i 0 ≡ 47) (k : i + 1 < length s) (d : get_or s (i + 1) 0 ≡ 47) (x : Runs (in_class LineByte) s (i + 1) e) where
    to_end : spacing_at kind ok line s e n ≡ r
    to_end = run_keeps (λ j. spacing_at kind ok line s j n ≡ r) (in_class LineByte) s (i + 1) e x (λ j l t v. l_on kind ok s j n r v l (line_byte _ false t)) (a_line kind ok s i n r inv h c k d)

    pub a_line_last : length s ≤ e → spacing_at kind ok gap s e n ≡ r
    a_line_last l = l_end kind ok s e n r to_end l

    pub a_line_counted : (m : ℕ) → e < length s → m ≡ lines_at s e → spacing_at kind ok gap s (e + 1) (n + m) ≡ r
    a_line_counted m l q = rw q (l_byte kind ok s e n r to_end l (line_byte _ true (x.stops l)))

module _ (kind : ℕ) (ok : Bool) (s : List ℕ) (b k n : ℕ) (r : Result (ℕ × ℕ) SpacingError) where
  -- behind a `*`, or behind a line end that closes in this kind
  module _ (x f : Bool) (inv : spacing_at kind ok (comment b x) s k n ≡ r) (q : f ≡ is_at 47 s k) where
    behind_close : (x && f) ≡ true → spacing_at kind ok gap s (k + 1) n ≡ r
    unfolding spacing spacing_at
    behind_close t =
        let y = (and-eq-true_iff x f).0 t in
        let a = at_true s k 47 (sym q ∙ y.1) in
        rw (drop_at s k a.0, y.0, eq-eqb _ _ a.1, spacing) at inv

    behind_on : (x && f) ≡ false → spacing_at kind ok (comment b false) s k n ≡ r
    unfolding spacing spacing_at
    behind_on t =
        ⊎_elim
        (λ h. let e = drop_of_length-le s h in rw e (rw e at inv))
        (λ h. rw (drop_at s k h) (rw (drop_at s k h, at_here s k 47 h ∙ sym q, t, spacing) at inv))
        (le_or_lt (length s) k)

module _ (kind : ℕ) (ok : Bool) (s : List ℕ) (b k n : ℕ) (r : Result (ℕ × ℕ) SpacingError) (inv : spacing_at kind ok (comment b false) s k n ≡ r) where
  pub c_end : length s ≤ k → Err (OpenComment b) ≡ r
  unfolding spacing spacing_at
  c_end h = rw (drop_of_length-le s h) at inv

  module _ (h : k < length s) where
    pub c_refused : OneOf ends (get_or s k 0) → not ok ≡ true → Err (LineEnd b) ≡ r
    unfolding spacing spacing_at
    c_refused o f = rw (drop_at s k h, eol_yes _ o, f, spacing) at inv

    c_on : (OneOf ends (get_or s k 0) → ⊥) → (get_or s k 0 ≡ 42 → ⊥) → spacing_at kind ok (comment b false) s (k + 1) n ≡ r
    unfolding spacing spacing_at
    c_on a f = rw (drop_at s k h, eol_no _ a, ne_eqb _ _ f, spacing) at inv

    c_byte : in_class CommentByte (get_or s k 0) ≡ true → spacing_at kind ok (comment b false) s (k + 1) n ≡ r
    unfolding spacing spacing_at in_class
    c_byte t =
        let x = (and-eq-true_iff _ _).0 t in
        rw (drop_at s k h, not-true (is_eol (get_or s k 0)) x.0, not-true (eqb (get_or s k 0) 42) x.1, spacing) at inv

    c_eol : OneOf ends (get_or s k 0) → not ok ≡ false → spacing_at kind ok (comment b (slash_closes kind)) s (k + 1) (n + lines_at s k) ≡ r
    unfolding spacing spacing_at lines_at
    c_eol o f = rw (drop_at s k h, eol_yes _ o, f, spacing) at inv

    c_star : get_or s k 0 ≡ 42 → spacing_at kind ok (comment b true) s (k + 1) n ≡ r
    unfolding spacing spacing_at is_eol
    c_star e = rw (drop_key s k 42 h e) at inv

    module _ (f : Bool) (q : f ≡ is_at 47 s (k + 1)) where
      pub c_eol_on : (m : ℕ) → OneOf ends (get_or s k 0) → not ok ≡ false → (slash_closes kind && f) ≡ false → m ≡ lines_at s k → spacing_at kind ok (comment b false) s (k + 1) (n + m) ≡ r
      c_eol_on m o g t w = rw w (behind_on kind ok s b (k + 1) (n + lines_at s k) r (slash_closes kind) f (c_eol o g) q t)

      pub c_eol_close : (m : ℕ) → OneOf ends (get_or s k 0) → not ok ≡ false → (slash_closes kind && f) ≡ true → m ≡ lines_at s k → spacing_at kind ok gap s (k + 1 + 1) (n + m) ≡ r
      c_eol_close m o g t w = rw w (behind_close kind ok s b (k + 1) (n + lines_at s k) r (slash_closes kind) f (c_eol o g) q t)

      pub c_eol_next : (slash_closes kind && f) ≡ true → k + 1 + 1 ≤ length s
      c_eol_next t = at_next s (k + 1) 47 f q ((and-eq-true_iff (slash_closes kind) f).0 t).1

      pub c_star_on : get_or s k 0 ≡ 42 → f ≡ false → spacing_at kind ok (comment b false) s (k + 1) n ≡ r
      c_star_on e t = behind_on kind ok s b (k + 1) n r true f (c_star e) q t

      pub c_star_close : get_or s k 0 ≡ 42 → f ≡ true → spacing_at kind ok gap s (k + 1 + 1) n ≡ r
      c_star_close e t = behind_close kind ok s b (k + 1) n r true f (c_star e) q t

-- a byte that is neither line end nor `*`, and a run of such behind it
pub c_run : (kind : ℕ) (ok : Bool) (s : List ℕ) (b k n e : ℕ) (r : Result (ℕ × ℕ) SpacingError) → spacing_at kind ok (comment b false) s k n ≡ r → k < length s → Runs (in_class CommentByte) s (k + 1) e → (OneOf ends (get_or s k 0) → ⊥) → (get_or s k 0 ≡ 42 → ⊥) → spacing_at kind ok (comment b false) s e n ≡ r
c_run kind ok s b k n e r inv h x o f =
    run_keeps (λ j. spacing_at kind ok (comment b false) s j n ≡ r) (in_class CommentByte) s (k + 1) e x (λ j l t v. c_byte kind ok s b j n r v l t) (c_on kind ok s b k n r inv h o f)
